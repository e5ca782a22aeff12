-- The numbers by which choices are written.
use Rattle.std.specs.Prelude.{ℕ}
use Rattle.flat_scene.specs.declared.calls.ImageFlip.{ImageFlip}
use Rattle.flat_scene.specs.declared.calls.ImageFlip.TheVariants.{Plain, LeftRight, UpDown}
use Rattle.flat_scene.specs.declared.calls.Interaction.{Interaction}
use Rattle.flat_scene.specs.declared.calls.Interaction.TheVariants.{Default, SemanticallyInvisible}

abbrev pub flip_number : ImageFlip → ℕ
flip_number Plain = 1
flip_number LeftRight = 2
flip_number UpDown = 3

abbrev pub interaction_number : Interaction → ℕ
interaction_number Default = 0
interaction_number SemanticallyInvisible = 1
