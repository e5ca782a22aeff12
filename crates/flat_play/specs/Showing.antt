-- What displays have had of a run.
use Rattle.std.specs.Prelude.{◌≡◌, ℕ, suc, true, List, [], ◌∷◌, ◌++◌, length, map, Option}
use Rattle.std.specs.List.{list_all}
use Rattle.flat_scene.specs.declared.frames.FrameOut.{FrameOut}
use Rattle.flat_scene.specs.declared.frames.LostDisplay.{LostDisplay}
use Rattle.flat_scene.specs.declared.journal.Entry.{Entry}
use Rattle.flat_display.specs.Had.{AreDriven}
use Rattle.flat_display.specs.Lost.{Driven}
use Rattle.flat_display.specs.Shows.{Shows}
use Rattle.flat_report.specs.Report.{is_loss}
use Rattle.flat_report.specs.Runs.{is_display_number}

-- There are as many displays as before, each of its kind.
pub record KeepsDisplays {D K : Type 0} (kind : D → K) (set set' : Driven) (olds news : List D) : Type 0 where
  pub count : set'.displays ≡ set.displays
  pub kinds : map kind news ≡ map kind olds

-- Displays of a type tell these frames, and have these counts of faults.
module _ {D : Type 0} (told : D → Option (List FrameOut)) (count : D → ℕ) where
  -- A line of the script finishes a frame, of the next number, which was shown to the displays that aren't lost;
  -- or it leaves frames and displays as they are.
  pub data IsShown (old new : List FrameOut) (set set' : Driven) (olds news : List D) : Type 0 where
    shows_frame : (next : FrameOut) (more : List LostDisplay) → new ≡ old ++ next ∷ [] → next.frame.0 ≡ suc (length old)
        → set' ≡ record set { lost = set.lost ++ more } → Shows told count next set.lost 1 olds news more
        → IsShown old new set set' olds news
    shows_none : new ≡ old → set' ≡ set → news ≡ olds → IsShown old new set set' olds news

  -- The displays have had the frames of the history so far.
  -- Those that failed are lost, each at the frame that it failed to take, in order and once.
  pub record HaveSeen (frames : List FrameOut) (history : List Entry) (lost : List LostDisplay) (olds news : List D)
      : Type 0
    where
      pub driven : AreDriven told count lost frames olds news
      pub loss : is_loss history lost ≡ true
      pub numbered : list_all (λ one. is_display_number one.display) lost ≡ true
