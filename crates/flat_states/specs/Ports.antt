-- The display as a viewport.
use Rattle.std.specs.Prelude.{ℕ}
use Rattle.flat_scene.specs.declared.setup.Setup.{Setup}
use Rattle.flat_states.specs.declared.port.DisplayPort.{DisplayPort}
use Rattle.flat_rules.specs.Watch.{display_props}

-- the display at a pixel ratio
abbrev pub port_of : ℕ → Setup → DisplayPort
port_of ratio setup = record { ratio = ratio; props = display_props ratio setup }
