use Rattle.std.proofs.Common.{Some}
use Rattle.flat_places.proofs.lemmas.ReadsLemmas.{then, begin}
use Rattle.flat_places.proofs.word_cursor.WordCursor.region.Goals as goal

pub returns : goal.returns
returns c = then (begin (λ r i. record { area = Some r; interaction = i }) c.int_rect-area.ensures) c.interaction-interaction.ensures
