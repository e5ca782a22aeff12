-- The sessions of a race: how a seat stands at a place of the script, and what of it comes back.
use Rattle.std.specs.Prelude.{◌≡◌, ℕ, ◌≤◌, Bool, true, false, length, take}
use Rattle.flat_base.specs.declared.ids.SessionNo.{SessionNo}
use Rattle.flat_scene.specs.declared.script.SessionLine.{SessionLine}
use Rattle.flat_scene.specs.declared.script.SessionLine.TheVariants as line
use Rattle.flat_scene.specs.Journals.{history_of}
use Rattle.flat_scene.specs.Interleave.{Follows, IsReading, session_lines}
use Rattle.flat_rules.specs.Legal.{is_link}
use Rattle.flat_places.specs.declared.script.Script.{Script}
use Rattle.flat_stage.specs.Readings.{SeatHasRead}
use Rattle.flat_stage.specs.Seats as stage
use Rattle.flat_stage.specs.Seats.{SessionView, StageView, is_ended, setup_of}
use Rattle.flat_play.specs.Playing.{last_number, lines_by, shares_of}
use Rattle.flat_race.specs.declared.session.SessionBack.{SessionBack}

-- the stage is that of a script: its setup, with room for all lines of each actor
pub record IsStageOf (view : StageView) (script : Script) : Type 0 where
  pub setup : setup_of view ≡ script.setup
  pub shares : stage.shares_of view ≡ shares_of script

-- ---- one session

-- a line that makes an entry of each session that is open: all do but calls of its own draft
abbrev pub makes_entry : SessionLine → Bool
makes_entry (line.Call call) = is_link call
makes_entry _ = true

-- the seat may have seen more, and is else as it was
abbrev pub IsSame : SessionView → SessionView → Type 0
IsSame old new = new ≡ record old { seen = new.seen }

-- A session's seat stands at a place of the script: its entries are the reading of its lines before that place.
pub record SessionStands (script : Script) (view : StageView) (s : SessionNo) (place : ℕ)
    (seat : SessionView) : Type 0 where
  pub own : seat.stage ≡ view
  pub session : seat.session ≡ s
  pub unended : is_ended seat.mine ≡ false
  pub spent : length seat.mine ≤ lines_by s.0 (take place script.lines)
  pub few : seat.refused ≤ last_number 0 (take place script.lines)
  pub reads : SeatHasRead (session_lines s (take place script.lines)) seat

-- A seat comes back from its session, whose entries are the reading of its lines so far. If this came to its
-- End, they are the reading of all its lines.
pub record HasRun (view : StageView) (script : Script) (s : SessionNo) (back : SessionBack) : Type 0 where
  pub own : back.seat.stage ≡ view
  pub session : back.seat.session ≡ s
  pub begun : Follows script.setup script.count (session_lines s script.lines) (history_of back.seat.mine)
  pub read : back.is_whole ≡ true
      → IsReading script.setup script.count (session_lines s script.lines) (history_of back.seat.mine)
