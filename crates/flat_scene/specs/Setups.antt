-- which setups the head of a script can give
use Rattle.std.specs.Prelude.{ℕ, Bool, ◌&&◌, nat_lt, nat_le}
use Rattle.flat_base.specs.declared.ids.SessionNo.{SessionNo}
use Rattle.flat_base.specs.declared.limits.TheConstants.{RATIO_MIN, RATIO_MAX}
use Rattle.flat_scene.specs.declared.setup.Setup.{Setup}

-- a number from 1 to a limit
abbrev pub is_within : ℕ → ℕ → Bool
is_within limit n = nat_lt 0 n && nat_le n limit

-- whether a session is one of the setup
abbrev pub is_declared : Setup → SessionNo → Bool
is_declared setup s = is_within setup.sessions s.0

-- a pixel ratio that a display may have
abbrev pub is_ratio : ℕ → Bool
is_ratio ratio = nat_le RATIO_MIN ratio && nat_le ratio RATIO_MAX

-- the setup whose display has another pixel ratio
abbrev pub at_ratio : ℕ → Setup → Setup
at_ratio ratio setup = record setup { ratio = ratio }
