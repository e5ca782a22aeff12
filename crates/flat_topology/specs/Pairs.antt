-- The pairs of a setup, and who owns their ends.
use Rattle.std.specs.Prelude.{ℕ, Option}
use Rattle.std.specs.List.{position_from}
use Rattle.flat_scene.specs.declared.setup.Setup.{Setup}
use Rattle.flat_scene.specs.History.{is_display}

-- the pair whose viewport end the display owns
abbrev pub display_pair : Setup → Option ℕ
display_pair setup = position_from (λ pair. is_display pair.viewport) 0 setup.pairs
