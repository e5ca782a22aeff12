use Rattle.flat_places.specs.Places.{inset}
use Rattle.flat_places.proofs.lemmas.ReadsLemmas.{read_optional, some_left}
use Rattle.flat_places.proofs.word_cursor.WordCursor.inset_if_any.Goals as goal

pub returns : goal.returns
returns c = read_optional inset (some_left c.args.self.now.words c.if-is_none.ensures) c.inset.ensures
