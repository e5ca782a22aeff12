-- What a run of a script leaves, whoever drove it.
use Rattle.std.specs.Prelude.{◌≡◌, ℕ, ◌+◌, List, length, map, Option}
use Rattle.flat_scene.specs.declared.frames.FrameOut.{FrameOut}
use Rattle.flat_scene.specs.declared.frames.LostDisplay.{LostDisplay}
use Rattle.flat_scene.specs.Interleave.{IsWritten}
use Rattle.flat_places.specs.declared.script.Script.{Script}
use Rattle.flat_pointer.specs.declared.text.PointerLine.{PointerLine}
use Rattle.flat_pointer.specs.declared.text.PointerTouch.{PointerTouch}
use Rattle.flat_report.specs.declared.probes.ProbeAnswer.{ProbeAnswer}
use Rattle.flat_report.specs.Probes.{ProbesAnswered, frames_seen}
use Rattle.flat_report.specs.Report.{finished}
use Rattle.flat_play.specs.declared.kept_frames.FramesToKeep.{FramesToKeep}
use Rattle.flat_play.specs.declared.play.Play.{Play}
use Rattle.flat_play.specs.declared.whole.FinishedPlay.{FinishedPlay}
use Rattle.flat_play.specs.InTurn.{seen_in_turn}
use Rattle.flat_play.specs.Keeping.{keeping_of}
use Rattle.flat_play.specs.Playing.{HasPlayed, PlayStands}
use Rattle.flat_play.specs.Showing.{HaveSeen}
use Rattle.flat_play.specs.Touches.{touch_of}
use Rattle.flat_play.specs.Touching.{GoesOnAt}

-- The line at a place of the script was played: its entry, if it made one, has its number, and frames are kept in the
-- same way as before.
pub record PlaysLine (script : Script) (place number : ℕ) (old new : Play) : Type 0 where
  pub stands : PlayStands script (place + 1) new
  pub goes_on : GoesOnAt number old.board.history new.board.history
  pub keeping : keeping_of new.store.kept ≡ keeping_of old.store.kept

-- Displays of a type tell these frames, and have these counts of faults.
module _ {D : Type 0} (told : D → Option (List FrameOut)) (count : D → ℕ) (script : Script) (olds news : List D) where
  -- There is one legal history, which interleaves the script's actors. What is kept of frames in this way, the answers
  -- to points and to probes, and what the displays have had are those of this history.
  pub record HasRun (way : FramesToKeep) (ran : FinishedPlay) : Type 0 where
    pub played : HasPlayed script ran.board ran.kept ran.answers
    pub probes : ProbesAnswered script ran.board.history ran.probes.items
    pub keeping : keeping_of ran.kept ≡ way
    pub seen : HaveSeen told count (finished script.setup ran.board.history) ran.board.history ran.set.lost
        olds news

  -- It was played in written order: the entries stand in the order of their lines, and each line of a probe saw the
  -- frame that was finished last before it.
  pub record HasRunInOrder (way : FramesToKeep) (ran : FinishedPlay) : Type 0 where
    pub run : HasRun way ran
    pub written : IsWritten script.setup ran.board.history
    pub in_turn : frames_seen ran.probes.items ≡ seen_in_turn script ran.board.history

  -- All lines of the script were played, none of its sessions has ended yet, and pointers' lines and those of probes
  -- are answered.
  pub record HasReadLines (way : FramesToKeep) (lines : List PointerLine) (play : Play) (found : List PointerTouch)
      (answers : List (List ProbeAnswer)) (lost : List LostDisplay) : Type 0 where
    pub stands : PlayStands script (length script.lines) play
    pub touches : found ≡ map (touch_of script.setup play.board.history) lines
    pub probes : ProbesAnswered script play.board.history answers
    pub in_turn : frames_seen answers ≡ seen_in_turn script play.board.history
    pub keeping : keeping_of play.store.kept ≡ way
    pub seen : HaveSeen told count (finished script.setup play.board.history) play.board.history lost olds news
