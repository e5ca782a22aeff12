use Rattle.std.proofs.Common.{sym}
use Rattle.flat_places.proofs.lemmas.ReadsLemmas.{goes_on_at}
use Rattle.flat_places.proofs.word_cursor.WordCursor.finish.Goals as goal

pub returns-in-Some-clause-reads : goal.returns-in-Some-clause-reads
returns-in-Some-clause-reads g c = sym (goes_on_at c.args.value c.args.self c.in-Some.field-0 _ c.in-Some.is c.lowest.ensures)
