-- Losses of one display and of two, on small examples.
use Rattle.std.proofs.Common.{[], ◌∷◌, arith}
use Rattle.flat_scene.specs.declared.frames.LostDisplay.{LostDisplay}
use Rattle.flat_display.specs.Lost.{AreWithin}

abbrev second : LostDisplay
second = record { display = 2; frame = record { 0 = 1 } }

-- of two displays the second may be lost
among-two : AreWithin 2 (second ∷ [])
among-two = (omega arith, omega arith, tt)

-- of one it can't
not-of-one : AreWithin 1 (second ∷ []) → ⊥
not-of-one within = let wrong = within.1 in omega (arith, wrong)
