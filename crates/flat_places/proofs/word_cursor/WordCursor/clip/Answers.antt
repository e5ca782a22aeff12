use Rattle.flat_places.specs.Places.{int_rect}
use Rattle.flat_places.proofs.lemmas.ReadsLemmas.{read_optional, some_left}
use Rattle.flat_places.proofs.word_cursor.WordCursor.clip.Goals as goal

pub returns : goal.returns
returns c = read_optional int_rect (some_left c.args.self.now.words c.if-is_none.ensures) c.int_rect.ensures
