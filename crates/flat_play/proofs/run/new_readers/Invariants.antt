use Rattle.flat_play.specs.Playing.{AreNew}
use Rattle.flat_play.proofs.run.new_readers.Given as goal

abbrev pub invariant-loop-before : goal.invariant-loop-before
invariant-loop-before l = AreNew l.setup l.before l.readers.items
