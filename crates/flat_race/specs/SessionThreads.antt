-- The sessions' threads: what one promises, and whose seats are out and back.
use Rattle.std.specs.Prelude.{◌≡◌, ℕ, ◌+◌, ◌<◌, ◌≤◌, Bool, true, List, length, Option, Some, slice_get}
use Rattle.flat_base.specs.declared.ids.SessionNo.{SessionNo}
use Rattle.flat_scene.specs.Journals.{history_of}
use Rattle.flat_scene.specs.Interleave.{Follows, IsReading, session_lines}
use Rattle.flat_places.specs.declared.script.Script.{Script}
use Rattle.flat_stage.specs.Homes.{fresh_view}
use Rattle.flat_stage.specs.Seats.{SessionView, StageView}
use Rattle.flat_race.specs.declared.threads.LentSeat.{LentSeat}
use Rattle.flat_race.specs.declared.threads.LentSeat.TheVariants.{Thread, Here}
use Rattle.flat_race.specs.Sessions.{HasRun}

-- a session's seat is out: with a thread that promises to hand it back, or it came back here
abbrev pub IsOut : StageView → Script → SessionNo → LentSeat → Type 0
IsOut view script s (Thread handle) =
    (handle.promise.stage.now ≡ view) × (handle.promise.script.now ≡ script) × (handle.promise.session ≡ s)
IsOut view script s (Here back) = HasRun view script s back

-- the first sessions are out, in order
pub record AreOut (view : StageView) (script : Script) (count : ℕ) (out : List LentSeat) : Type 0 where
  pub many : length out ≡ count
  pub each : (i : ℕ) (o : LentSeat) → slice_get out i ≡ Some o → IsOut view script (record { 0 = i + 1 }) o

-- The seats of the first sessions are away, and those of the others at home, and read no line.
pub record AreLeft (view : StageView) (sessions taken : ℕ) (seats : List (Option SessionView)) : Type 0 where
  pub count : length seats ≡ sessions
  pub each : (k : ℕ) → taken ≤ k → k < sessions
      → slice_get seats k ≡ Some (Some (fresh_view view (record { 0 = k + 1 })))

-- The seats of the sessions past the first ones are back. The entries of each are the reading of its lines so
-- far, and of all of them if all sessions came to their End.
pub record AreBack (view : StageView) (script : Script) (first : ℕ) (are_whole : Bool)
    (seats : List (Option SessionView)) : Type 0 where
  pub count : length seats ≡ script.setup.sessions
  pub home : (k : ℕ) → first ≤ k → k < script.setup.sessions → (seat : SessionView)
      × (slice_get seats k ≡ Some (Some seat)) × (seat.session.0 ≡ k + 1)
  pub begun : (k : ℕ) (seat : SessionView) → first ≤ k → k < script.setup.sessions
      → slice_get seats k ≡ Some (Some seat)
      → Follows script.setup script.count (session_lines (record { 0 = k + 1 }) script.lines) (history_of seat.mine)
  pub read : (k : ℕ) (seat : SessionView) → first ≤ k → k < script.setup.sessions
      → slice_get seats k ≡ Some (Some seat) → are_whole ≡ true
      → IsReading script.setup script.count (session_lines (record { 0 = k + 1 }) script.lines) (history_of seat.mine)
