-- The places of a session's own lines in a script.
use Rattle.std.specs.Prelude.{◌≡◌, ℕ, suc, ◌≤◌, cond, List, [], ◌∷◌, length, drop}
use Rattle.flat_base.specs.declared.ids.SessionNo.{SessionNo}
use Rattle.flat_scene.specs.declared.script.ScriptLine.{ScriptLine}
use Rattle.flat_scene.specs.History.{is_session}
use Rattle.flat_places.specs.declared.script.Script.{Script}
use Rattle.flat_stage.specs.Seats.{SessionView, StageView}
use Rattle.flat_race.specs.Sessions.{SessionStands}

-- of some lines, the first of which stands at this place
abbrev pub places_from : SessionNo → ℕ → List ScriptLine → List ℕ
places_from s first [] = []
places_from s first (next ∷ later) = cond (is_session s next.actor) (first ∷ places_from s (suc first) later)
    (places_from s (suc first) later)

-- of all lines of a script
abbrev pub own_places : SessionNo → List ScriptLine → List ℕ
own_places s lines = places_from s 0 lines

-- A session's seat stands behind some of its lines, and before the first of those that are left.
pub record StandsBefore (script : Script) (view : StageView) (s : SessionNo) (left : List ℕ) (seat : SessionView) : Type
    0 where
  pub place : ℕ
  pub within : place ≤ length script.lines
  pub stands : SessionStands script view s place seat
  pub are_left : left ≡ places_from s place (drop place script.lines)
