-- What is kept of the frames that a history finishes, and how it goes on with the history.
use Rattle.std.specs.Prelude.{◌≡◌, ◌+◌, ℕ, ℤ, List, [], ◌∷◌, ◌++◌}
use Rattle.flat_scene.specs.declared.journal.Entry.{Entry}
use Rattle.flat_scene.specs.declared.script.DisplayLine.{DisplayLine}
use Rattle.flat_scene.specs.declared.script.DisplayLine.TheVariants as display
use Rattle.flat_scene.specs.declared.setup.Setup.{Setup}
use Rattle.flat_rules.specs.Ends.{to_begin}
use Rattle.flat_rules.specs.Legal.{frames}
use Rattle.flat_topology.specs.Changes.{AreSame}
use Rattle.flat_report.specs.Handed.{answers_of}
use Rattle.flat_report.specs.Report.{finished, frame_at}
use Rattle.flat_places.specs.declared.script.Script.{Script}
use Rattle.flat_core.specs.declared.start.FrameStart.{FrameStart}
use Rattle.flat_core.specs.Starts.{IsStart}
use Rattle.flat_play.specs.declared.store.FrameStore.{FrameStore}
use Rattle.flat_play.specs.Keeping.{Keeps, KeepsMore}
use Rattle.flat_play.specs.Last.{EndsFrames, ShowsStart, StaysLast, point_answer}

-- What is kept is that of the finished frames, of the last of them, and of the points that were asked for.
pub record StoreStands (script : Script) (history : List Entry) (store : FrameStore) : Type 0 where
  pub keeps : Keeps script store.kept (finished script.setup history)
  pub ends : EndsFrames script.setup history store.last
  pub points : store.answers ≡ answers_of script.setup history

-- A frame starts with what the last begin decided, and may follow those that are kept: outside of the sessions that
-- changed it shows what the last of them shows.
pub record FramesStand (script : Script) (history : List Entry) (start : FrameStart) (store : FrameStore) : Type 0 where
  pub starts : IsStart script.setup history start
  pub same : AreSame start.changed store.last.reuse start.shown
  pub stored : StoreStands script history store

-- Only what is joined of the last frame may be another.
pub record StaysStored (setup : Setup) (old new : FrameStore) : Type 0 where
  pub kept : new.kept ≡ old.kept
  pub last : StaysLast setup old.last new.last
  pub points : new.answers ≡ old.answers

-- ---- the next frame

-- The next frame is kept: that of the last begin.
pub record FinishesNext (script : Script) (history : List Entry) (start : FrameStart) (old new : FrameStore) : Type 0
  where
    pub kept : KeepsMore script (frame_at script.setup (frames history + 1) (to_begin history)) old.kept new.kept
    pub number : new.last.frame.0 ≡ frames history + 1
    pub last : ShowsStart script.setup start new.last
    pub points : new.answers ≡ old.answers

-- It isn't there: the number of frames stays, and so do the answers. What was kept of the frames may be lost.
pub record LacksNext (old new : FrameStore) : Type 0 where
  pub number : new.last.frame ≡ old.last.frame
  pub points : new.answers ≡ old.answers

-- ---- points

-- A point is answered by the last frame, behind the other answers.
pub record AnswersPoint (setup : Setup) (number : ℕ) (x y : ℤ) (old new : FrameStore) : Type 0 where
  pub kept : new.kept ≡ old.kept
  pub last : StaysLast setup old.last new.last
  pub points : new.answers ≡ old.answers ++ point_answer setup old.last number x y ∷ []

-- so is a line of the display, if it asks for one; another changes nothing
abbrev pub AnswersLine : Setup → ℕ → DisplayLine → FrameStore → FrameStore → Type 0
AnswersLine setup number (display.Hit x y) old new = AnswersPoint setup number x y old new
AnswersLine setup number _ old new = new ≡ old
