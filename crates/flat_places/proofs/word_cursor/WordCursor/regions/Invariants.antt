use Rattle.std.proofs.Common.{◌≡◌, ◌++◌, length}
use Rattle.flat_places.specs.Forms.{mapped}
use Rattle.flat_places.specs.Places.{regions}
use Rattle.flat_places.specs.Reads.{lower, sofar, left}
use Rattle.flat_places.proofs.word_cursor.WordCursor.regions.Given as goal

abbrev pub invariant-loop-self : goal.invariant-loop-self
invariant-loop-self l = lower (sofar l.self) (mapped (λ rest. l.found ++ rest) (regions (left l.self))) ≡ lower (sofar l.fn.self) (regions (left l.fn.self))

abbrev pub decreases-loop-self : goal.decreases-loop-self
decreases-loop-self l = length (left l.self)
