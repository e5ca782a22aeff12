-- How a run stands while it follows a guide: each actor at its own place of the script.
use Rattle.std.specs.Prelude.{◌≡◌, ◌≢◌, ℕ, ◌+◌, ◌<◌, ◌≤◌, ◌==◌, Bool, true, false, List, [], ◌++◌, length, take, drop}
use Rattle.std.specs.Prelude.{slice_get, slice_index_or, Option, Some, None, cond}
use Rattle.flat_base.specs.declared.ids.Actor.{Actor}
use Rattle.flat_base.specs.declared.ids.Actor.TheVariants.{Display, Probe}
use Rattle.flat_base.specs.declared.ids.SessionNo.{SessionNo}
use Rattle.flat_scene.specs.declared.calls.Call.{Call}
use Rattle.flat_scene.specs.declared.journal.Entry.{Entry}
use Rattle.flat_scene.specs.declared.journal.EntryKind.{EntryKind}
use Rattle.flat_scene.specs.declared.journal.EntryKind.TheVariants.{Begin, Finish, Hit}
use Rattle.flat_scene.specs.declared.journal.Reply.{Reply}
use Rattle.flat_scene.specs.declared.script.LineBody.{LineBody}
use Rattle.flat_scene.specs.declared.script.LineBody.TheVariants as body
use Rattle.flat_scene.specs.declared.script.SessionLine.{SessionLine}
use Rattle.flat_scene.specs.declared.script.ProbeLine.{ProbeLine}
use Rattle.flat_scene.specs.History.{own, is_session}
use Rattle.flat_scene.specs.Interleave.{IsReading, session_lines}
use Rattle.flat_core.specs.Machines.{Machine, entered, made}
use Rattle.flat_rules.specs.Legal.{frames, reply_to}
use Rattle.flat_places.specs.declared.script.Script.{Script}
use Rattle.flat_report.specs.declared.probes.ProbeAnswer.{ProbeAnswer}
use Rattle.flat_report.specs.Probes.{AreAnsweredBy, hits_in_frame}
use Rattle.flat_report.specs.Report.{probe_lines_of}
use Rattle.flat_play.specs.declared.kept_frames.FramesToKeep.TheVariants as keeping
use Rattle.flat_judge.specs.declared.replay_screen.ReplayScreen.{ReplayScreen}
use Rattle.flat_play.specs.Keeping.{keeping_of}
use Rattle.flat_play.specs.Playing.{DisplayStands, ReaderStands, lines_by}
use Rattle.flat_play.specs.Playing.{session_text, shares_of}
use Rattle.flat_play.specs.Storing.{FramesStand}
use Rattle.flat_judge.specs.declared.guided_run.GuidedRun.{GuidedRun}
use Rattle.flat_judge.specs.declared.session_cursor.SessionCursor.{SessionCursor}

-- ---- what is shown

-- What a run shows and keeps hangs on its history alone, and not on how far each actor has read.
pub record ScreenStands (script : Script) (screen : ReplayScreen) : Type 0 where
  pub setup : screen.board.setup ≡ script.setup
  pub shares : screen.board.shares ≡ shares_of script
  pub frames : FramesStand script screen.board.history screen.start screen.store
  pub texts : keeping_of screen.store.kept ≡ keeping.Texts

-- an entry that leaves frames and points alone
abbrev pub is_aside : EntryKind → Bool
is_aside (Begin time) = false
is_aside Finish = false
is_aside (Hit x y) = false
is_aside _ = true

-- A board stays, or has one entry more of an actor, which leaves frames and points alone.
pub data Goes (who : Actor) (old new : Machine) : Bool → Type 0 where
  stays : new ≡ old → Goes who old new false
  enters : (number : ℕ) (carries : List Call) (kind : EntryKind) (reply : Reply) → is_aside kind ≡ true
      → new ≡ entered old who number carries kind reply → Goes who old new true

-- A board has one entry more of the display, which carries nothing and has the reply of the rules.
abbrev pub HasEntered : ℕ → EntryKind → Machine → Machine → Type 0
HasEntered number kind old new =
    new ≡ entered old Display number [] kind (reply_to old.setup old.history Display [] kind)

-- A board stays, or has one entry more of the display.
pub data DisplayGoes (old new : Machine) : Bool → Type 0 where
  stays : new ≡ old → DisplayGoes old new false
  enters : (number : ℕ) (kind : EntryKind) → HasEntered number kind old new → DisplayGoes old new true

-- A history has these entries before others.
pub record Grown (old new : List Entry) : Type 0 where
  pub more : List Entry
  pub is : new ≡ more ++ old

-- ---- a session

-- the line of a session that a line of an actor is
abbrev pub own_text : SessionNo → Actor → LineBody → Option SessionLine
own_text s actor text = cond (is_session s actor) (session_text text) None

-- A session that hasn't ended has read its lines up to its place, and has room for those that are left.
pub record IsAt (script : Script) (s : SessionNo) (history : List Entry) (seat : SessionCursor) : Type 0 where
  pub within : seat.place ≤ length script.lines
  pub stands : ReaderStands script s seat.place history seat.reader
  pub spent : made s.0 history + lines_by s.0 (drop seat.place script.lines) ≤ lines_by s.0 script.lines

-- a session that has ended has read all its lines
abbrev pub SitsBy : Script → SessionNo → List Entry → SessionCursor → Bool → Type 0
SitsBy script s history seat true = IsReading script.setup script.count (session_lines s script.lines) (own s history)
SitsBy script s history seat false = IsAt script s history seat

abbrev pub Sits : Script → SessionNo → List Entry → SessionCursor → Type 0
Sits script s history seat = SitsBy script s history seat seat.has_ended

-- All sessions sit.
pub record SeatsStand (script : Script) (history : List Entry) (seats : List SessionCursor) : Type 0 where
  pub count : length seats ≡ script.setup.sessions
  pub each : (k : ℕ) (d : SessionCursor) → k < length seats
      → Sits script (record { 0 = k + 1 }) history (slice_index_or seats k d)

-- ---- the whole

-- The lines of each probe up to its place are answered by frames of the history so far.
pub record ProbesStandAt (script : Script) (history : List Entry) (places : List ℕ)
    (answers : List (List ProbeAnswer)) : Type 0 where
  pub count : length answers ≡ script.setup.probes
  pub as_many : length places ≡ script.setup.probes
  pub each : (n place : ℕ) (one : List ProbeAnswer) → slice_get places n ≡ Some place → slice_get answers n ≡ Some one
      → (place ≤ length script.lines)
      × AreAnsweredBy (hits_in_frame script.setup history) (frames history)
      (probe_lines_of n (take place script.lines)) one

-- A run stands: what it shows, and each actor at its place.
pub record RunStands (script : Script) (guided : GuidedRun) : Type 0 where
  pub screen : ScreenStands script guided.screen
  pub seats : SeatsStand script guided.screen.board.history guided.seats.items
  pub within : guided.place ≤ length script.lines
  pub display : DisplayStands script guided.place guided.screen.board.history
  pub spent : made 0 guided.screen.board.history + lines_by 0 (drop guided.place script.lines) ≤ lines_by 0 script.lines
  pub probes : ProbesStandAt script guided.screen.board.history guided.places guided.answers.items

-- the sessions before one have ended
abbrev pub HaveEnded : ℕ → List SessionCursor → Type 0
HaveEnded n seats = (k : ℕ) (seat : SessionCursor) → k < n → slice_get seats k ≡ Some seat → seat.has_ended ≡ true

-- all seats but one are as they were, and that one went on: it has ended, or its place is a later one
pub record GoesOn (k : ℕ) (old new : List SessionCursor) : Type 0 where
  pub others : (j : ℕ) → j ≢ k → slice_get new j ≡ slice_get old j
  pub on : (was is : SessionCursor) → slice_get old k ≡ Some was → slice_get new k ≡ Some is → is.has_ended ≡ false
      → was.place < is.place

-- A run has come to its end: each session has ended, and the display and the probes stand behind all lines.
pub record IsWhole (script : Script) (guided : GuidedRun) : Type 0 where
  pub stands : RunStands script guided
  pub ended : HaveEnded script.setup.sessions guided.seats.items
  pub display : guided.place ≡ length script.lines
  pub probes : (n place : ℕ) → slice_get guided.places n ≡ Some place → place ≡ length script.lines

-- ---- probes

-- what a line asks of a probe, if it is one of the probe's
abbrev pub asked_here : ℕ → Actor → LineBody → Option ProbeLine
asked_here probe (Probe p) (body.Probe asked) = cond (p == probe) (Some asked) None
asked_here probe _ _ = None

-- A probe's place goes on by one where it goes on, which it does if the line is due; all other places stay.
pub record ProbeGoes (probe : ℕ) (is_due on : Bool) (old new : List ℕ) : Type 0 where
  pub next : on ≡ true → (place : ℕ) → slice_get old probe ≡ Some place → slice_get new probe ≡ Some (place + 1)
  pub due : is_due ≡ true → on ≡ true
  pub others : (n : ℕ) → n ≢ probe → slice_get new n ≡ slice_get old n

-- A probe's place goes on, and behind all frames it is behind all lines; all other places stay.
pub record ProbeGoesOn (script : Script) (probe : ℕ) (is_last : Bool) (old new : List ℕ) : Type 0 where
  pub last : is_last ≡ true → slice_get new probe ≡ Some (length script.lines)
  pub others : (n : ℕ) → n ≢ probe → slice_get new n ≡ slice_get old n

-- the first probes are behind all lines
abbrev pub AreBehind : Script → ℕ → List ℕ → Type 0
AreBehind script probes places =
    (n place : ℕ) → n < probes → slice_get places n ≡ Some place → place ≡ length script.lines
