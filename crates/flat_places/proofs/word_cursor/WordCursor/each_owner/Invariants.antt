use Rattle.std.proofs.Common.{◌≡◌, ◌++◌, length}
use Rattle.flat_places.specs.Forms.{mapped, each}
use Rattle.flat_places.specs.Places.{owner_word}
use Rattle.flat_places.specs.Reads.{lower, sofar, left}
use Rattle.flat_places.proofs.word_cursor.WordCursor.each_owner.Given as goal

abbrev pub invariant-loop-self : goal.invariant-loop-self
invariant-loop-self l = lower (sofar l.self) (mapped (λ rest. l.found ++ rest) (each (owner_word l.script.script) (left l.self)))
    ≡ lower (sofar l.fn.self) (each (owner_word l.script.script) (left l.fn.self))

abbrev pub decreases-loop-self : goal.decreases-loop-self
decreases-loop-self l = length (left l.self)
