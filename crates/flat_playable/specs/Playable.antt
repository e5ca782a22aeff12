-- Which scripts are played.
use Rattle.std.specs.Prelude.{ℕ, Bool, true, false, not, ◌&&◌, nat_le, nat_lt, List, [], ◌∷◌}
use Rattle.std.specs.List.{list_all}
use Rattle.flat_base.specs.declared.ids.Actor.{Actor}
use Rattle.flat_base.specs.declared.ids.Actor.TheVariants.{Display, Session, Probe}
use Rattle.flat_base.specs.declared.limits.TheConstants.{SCRIPT_BYTES_MAX}
use Rattle.flat_scene.specs.declared.script.LineBody.{LineBody}
use Rattle.flat_scene.specs.declared.script.LineBody.TheVariants as body
use Rattle.flat_scene.specs.declared.script.DisplayLine.TheVariants as display
use Rattle.flat_scene.specs.declared.script.ScriptLine.{ScriptLine}
use Rattle.flat_scene.specs.declared.setup.Setup.{Setup}
use Rattle.flat_scene.specs.Setups.{is_declared}
use Rattle.flat_scene.specs.Heads.{is_setup}
use Rattle.flat_rules.specs.Owned.{is_played_line, is_played_display}
use Rattle.flat_places.specs.declared.script.Script.{Script}

-- the numbers of lines rise, from above this one
abbrev pub rise_from : ℕ → List ScriptLine → Bool
rise_from n [] = true
rise_from n (next ∷ later) = nat_lt n next.number && rise_from next.number later

-- A frame begins only where none is open and at no lesser time than the one before, and is done only where one is
-- open; what follows is tested by whether a frame is open then, and the last time.
abbrev pub keeps_frames : Bool → ℕ → LineBody → (Bool → ℕ → Bool) → Bool
keeps_frames is_open time (body.Display (display.Begin t)) follows = not is_open && nat_le time t && follows true t
keeps_frames is_open time (body.Display display.Done) follows = is_open && follows false time
keeps_frames is_open time _ follows = follows is_open time

-- frames begin and are done in turn, from one that is open or not; begin times never fall, and the last frame is done
abbrev pub frames_close : Bool → ℕ → List ScriptLine → Bool
frames_close is_open time [] = not is_open
frames_close is_open time (next ∷ later) =
    keeps_frames is_open time next.body (λ open_then time_then. frames_close open_then time_then later)

-- a line that is played, by whom
abbrev pub is_played : Setup → Actor → LineBody → Bool
is_played setup (Session s) (body.Session text) = is_declared setup s && is_played_line setup s text
is_played setup Display (body.Display text) = is_played_display setup text
is_played setup (Probe p) (body.Probe asked) = nat_lt p setup.probes
is_played setup _ _ = false

-- Whether a script is one that is played: its setup is one that a head can give;
-- its lines rise up to its count, frames close, and each line is known.
abbrev pub is_playable : Script → Bool
is_playable script =
    is_setup script.setup && nat_le script.count SCRIPT_BYTES_MAX && rise_from 0 script.lines
    && list_all (λ next. nat_le next.number script.count) script.lines
    && frames_close false 0 script.lines && list_all (λ next. is_played script.setup next.actor next.body) script.lines
