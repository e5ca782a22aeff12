-- How a session stands at a place of the script.
use Rattle.std.specs.Prelude.{◌≡◌, ℕ, ◌+◌, ◌<◌, ◌≤◌, ◌==◌, true, false, List, [], ◌∷◌, ◌++◌, length, take}
use Rattle.std.specs.Prelude.{drop, map, reverse, count_by, slice_index, slice_index_or, slice_set, Option, Some, None}
use Rattle.std.specs.List.{AllByRecursion}
use Rattle.std.specs.List.Sorted.{IsStrictlyIncreasing}
use Rattle.flat_base.specs.declared.ids.Actor.TheVariants.{Display, Session}
use Rattle.flat_scene.specs.declared.journal.Reply.TheVariants.{Done}
use Rattle.flat_scene.specs.declared.script.LineBody.{LineBody}
use Rattle.flat_scene.specs.declared.script.LineBody.TheVariants as body
use Rattle.flat_scene.specs.declared.script.DisplayLine.{DisplayLine}
use Rattle.flat_base.specs.declared.ids.SessionNo.{SessionNo}
use Rattle.flat_scene.specs.declared.journal.Entry.{Entry}
use Rattle.flat_scene.specs.declared.journal.EntryKind.TheVariants.{Begin, Finish}
use Rattle.flat_scene.specs.declared.script.SessionLine.{SessionLine}
use Rattle.flat_scene.specs.declared.script.ScriptLine.{ScriptLine}
use Rattle.flat_scene.specs.declared.setup.Setup.{Setup}
use Rattle.flat_scene.specs.Frames.{sessions_to}
use Rattle.flat_scene.specs.History.{own, is_end}
use Rattle.flat_scene.specs.Journals.{seat_number}
use Rattle.flat_scene.specs.Interleave.{session_lines, display_lines, by_display, unread_lines, last_line}
use Rattle.flat_scene.specs.Interleave.{FollowsDisplay, Interleaves, IsReading, entry_of_display}
use Rattle.flat_core.specs.Machines.{Machine, entered, made}
use Rattle.flat_core.specs.Starts.{StartsFrame}
use Rattle.flat_rules.specs.Legal.{is_frame_open, begin_time, reply_to}
use Rattle.flat_report.specs.declared.report.HitAnswer.{HitAnswer}
use Rattle.flat_report.specs.Handed.{answers_of}
use Rattle.flat_report.specs.Report.{finished}
use Rattle.flat_places.specs.declared.script.Script.{Script}
use Rattle.flat_session.specs.declared.session_reader.SessionReader.{SessionReader}
use Rattle.flat_session.specs.Readings.{HasRead}
use Rattle.flat_session.specs.Reads.{IsNew, Stands}
use Rattle.flat_play.specs.declared.play.Play.{Play}
use Rattle.flat_play.specs.declared.kept_frames.KeptFrames.{KeptFrames}
use Rattle.flat_play.specs.Keeping.{Keeps}
use Rattle.flat_play.specs.Storing.{AnswersLine, FinishesNext, FramesStand, StoreStands}
use Rattle.flat_playable.specs.Playable.{frames_close}

-- ---- a session at a place

-- the number of the last of some lines
abbrev pub last_number : ℕ → List ScriptLine → ℕ
last_number n [] = n
last_number n (next ∷ later) = last_number next.number later

-- A session's entries are the reading of its lines up to a place, and its reader stands behind them.
-- It refused no more lines than there were.
pub record ReaderStands (script : Script) (s : SessionNo) (place : ℕ) (history : List Entry) (reader : SessionReader)
    : Type 0
  where
    pub session : reader.session ≡ s
    pub few : reader.refused ≤ last_number 0 (take place script.lines)
    pub stands : Stands script.setup (own s history) reader
    pub reads : HasRead script.setup (session_lines s (take place script.lines)) (own s history) reader

-- ---- all actors at a place

-- how many of some lines are of the actor of a seat
abbrev pub lines_by : ℕ → List ScriptLine → ℕ
lines_by seat = count_by (λ next. seat_number next.actor == seat)

-- some shares, of which that at a place is one more
abbrev pub with_one_more : ℕ → List ℕ → List ℕ
with_one_more place shares = slice_set shares place (slice_index shares place + 1)

-- what a board is to give room for: the display's lines, and those of each session with its End
abbrev pub rest_shares : Script → List ℕ
rest_shares script = map (λ s. lines_by s.0 script.lines + 1) (sessions_to script.setup.sessions)

abbrev pub shares_of : Script → List ℕ
shares_of script = lines_by 0 script.lines ∷ rest_shares script

-- no actor made more entries than it had lines
pub record IsSpent (script : Script) (place : ℕ) (history : List Entry) : Type 0 where
  pub spent : (seat : ℕ) → made seat history + lines_by seat (drop place script.lines) ≤ lines_by seat script.lines

-- The entries are written in order of their lines, up to a place, and none is an End.
pub record IsInOrder (script : Script) (place : ℕ) (history : List Entry) : Type 0 where
  pub rise : IsStrictlyIncreasing (map (λ entry. entry.line) (reverse history))
  pub last : last_line history ≤ last_number 0 (take place script.lines)
  pub no_ends : AllByRecursion (λ entry. is_end entry.kind ≡ false) (reverse history)

-- The display's entries are the reading of its lines up to a place, and the frames of the lines left go on from there.
pub record DisplayStands (script : Script) (place : ℕ) (history : List Entry) : Type 0 where
  pub follows : FollowsDisplay (display_lines script.lines) (by_display history)
  pub left : unread_lines (by_display history) (display_lines script.lines) ≡ display_lines (drop place script.lines)
  pub closing : frames_close (is_frame_open history) (begin_time history) (drop place script.lines) ≡ true

-- All readers stand at a place.
pub record ReadersStand (script : Script) (place : ℕ) (history : List Entry) (readers : List SessionReader) : Type 0
  where
    pub count : length readers ≡ script.setup.sessions
    pub each : (k : ℕ) (d : SessionReader) → k < length readers
        → ReaderStands script (record { 0 = k + 1 }) place history (slice_index_or readers k d)

-- The whole run stands at a place.
pub record PlayStands (script : Script) (place : ℕ) (play : Play) : Type 0 where
  pub setup : play.board.setup ≡ script.setup
  pub shares : play.board.shares ≡ shares_of script
  pub readers : ReadersStand script place play.board.history play.readers.items
  pub display : DisplayStands script place play.board.history
  pub order : IsInOrder script place play.board.history
  pub spent : IsSpent script place play.board.history
  pub frames : FramesStand script play.board.history play.start play.store

-- ---- what the display does to a run

-- A frame begins.
pub record BeginsFrame (old new : Play) (number time : ℕ) : Type 0 where
  pub board : new.board ≡ entered old.board Display number [] (Begin time) Done
  pub start : StartsFrame new.board.setup new.board.history old.start new.start
  pub readers : new.readers ≡ old.readers
  pub store : new.store ≡ old.store

-- A frame is finished, and kept.
pub record FinishesFrame (script : Script) (old new : Play) (number : ℕ) : Type 0 where
  pub board : new.board ≡ entered old.board Display number [] Finish Done
  pub start : new.start ≡ old.start
  pub readers : new.readers ≡ old.readers
  pub store : FinishesNext script old.board.history old.start old.store new.store

-- The display makes the entry of a line that begins no frame and ends none. If it asks for a point, this is answered.
pub record EntersBeside (old new : Play) (number : ℕ) (text : DisplayLine) : Type 0 where
  pub board : new.board ≡ entered old.board Display number [] (entry_of_display text)
      (reply_to old.board.setup old.board.history Display [] (entry_of_display text))
  pub start : new.start ≡ old.start
  pub readers : new.readers ≡ old.readers
  pub store : AnswersLine old.board.setup number text old.store new.store

-- the line of a session that a body is, and the line of the display
abbrev pub session_text : LineBody → Option SessionLine
session_text (body.Session text) = Some text
session_text _ = None

abbrev pub display_text : LineBody → Option DisplayLine
display_text (body.Display text) = Some text
display_text _ = None

-- ---- before any line

-- The readers of the first sessions are there, and have read no line.
pub record AreNew (setup : Setup) (sessions : ℕ) (readers : List SessionReader) : Type 0 where
  pub count : length readers ≡ sessions
  pub each : (k : ℕ) (d : SessionReader) → k < length readers
      → IsNew setup (record { 0 = k + 1 }) (slice_index_or readers k d)

-- ---- after all lines

-- The Ends of the first sessions come last, in order, after entries whose lines rise.
pub record HasEnds (ended : ℕ) (history : List Entry) : Type 0 where
  pub rising : List Entry
  pub ends : List Entry
  pub parts : reverse history ≡ rising ++ ends
  pub rise : IsStrictlyIncreasing (map (λ entry. entry.line) rising)
  pub no_end : AllByRecursion (λ entry. is_end entry.kind ≡ false) rising
  pub in_order : map (λ entry. entry.actor) ends ≡ map Session (sessions_to ended)

-- The first sessions have ended, and the others stand behind all lines.
pub record EndsStand (script : Script) (ended : ℕ) (play : Play) : Type 0 where
  pub setup : play.board.setup ≡ script.setup
  pub shares : play.board.shares ≡ shares_of script
  pub count : length play.readers.items ≡ script.setup.sessions
  pub readings : (k : ℕ) → k < ended → IsReading script.setup script.count
      (session_lines (record { 0 = k + 1 }) script.lines) (own (record { 0 = k + 1 }) play.board.history)
  pub waiting : (k : ℕ) (d : SessionReader) → ended ≤ k → k < length play.readers.items
      → ReaderStands script (record { 0 = k + 1 }) (length script.lines) play.board.history
      (slice_index_or play.readers.items k d)
  pub display : DisplayStands script (length script.lines) play.board.history
  pub has_ends : HasEnds ended play.board.history
  pub unspent : (k : ℕ) → ended ≤ k → made (k + 1) play.board.history ≤ lines_by (k + 1) script.lines
  pub stored : StoreStands script play.board.history play.store

-- A script was run to its end: the history interleaves the script's actors, what is kept of frames is that of those
-- that it finishes, and the answers are those to the points that it asks for.
pub record HasPlayed (script : Script) (board : Machine) (kept : KeptFrames) (answers : List HitAnswer) : Type 0 where
  pub setup : board.setup ≡ script.setup
  pub interleaves : Interleaves script.setup script.count script.lines board.history
  pub keeps : Keeps script kept (finished script.setup board.history)
  pub answering : answers ≡ answers_of script.setup board.history
