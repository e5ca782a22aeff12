-- The compositor of a race: how it stands at a place of the script.
use Rattle.std.specs.Prelude.{◌≡◌, ℕ, ◌+◌, ◌<◌, ◌^◌, ◌≤◌, List, [], ◌∷◌, ◌++◌, length, drop, Option}
use Rattle.flat_scene.specs.declared.frames.FrameOut.{FrameOut}
use Rattle.flat_scene.specs.declared.frames.LostDisplay.{LostDisplay}
use Rattle.flat_scene.specs.declared.journal.Entry.{Entry}
use Rattle.flat_scene.specs.declared.journal.Reply.{Reply}
use Rattle.flat_scene.specs.declared.script.DisplayLine.{DisplayLine}
use Rattle.flat_scene.specs.declared.setup.Setup.{Setup}
use Rattle.flat_scene.specs.Journals.{history_of}
use Rattle.flat_scene.specs.Interleave.{entry_of_display}
use Rattle.flat_rules.specs.Ends.{to_begin}
use Rattle.flat_rules.specs.Legal.{Legal, frames, is_frame_open}
use Rattle.flat_report.specs.Report.{finished, frame_at}
use Rattle.flat_places.specs.declared.script.Script.{Script}
use Rattle.flat_display.specs.Had.{AreDriven}
use Rattle.flat_core.specs.declared.start.FrameStart.{FrameStart}
use Rattle.flat_stage.specs.Displays.{CompositorView, DisplayEnters, DisplaySees, DisplayView, KeepsStart}
use Rattle.flat_stage.specs.Seats.{StageView, entries_of_seat}
use Rattle.flat_play.specs.Keeping.{keeping_of}
use Rattle.flat_play.specs.Playing.{DisplayStands, lines_by}
use Rattle.flat_play.specs.Showing.{HaveSeen, IsShown}
use Rattle.flat_play.specs.Storing.{FinishesNext, FramesStand, StoreStands}
use Rattle.flat_publish.specs.State.{Publishing}
use Rattle.flat_race.specs.declared.race_frames.RaceFrames.{RaceFrames}
use Rattle.flat_race.specs.Publishing.{FinishesOne, PublishedStand}

-- The seat knows its own entries in what it has seen, and these are the reading of the display's lines before a place.
pub record SeatStands (script : Script) (view : StageView) (place : ℕ) (seat : DisplayView) : Type 0 where
  pub own : seat.stage ≡ view
  pub mine : seat.mine ≡ entries_of_seat 0 seat.seen
  pub legal : Legal script.setup (history_of seat.seen)
  pub display : DisplayStands script place (history_of seat.seen)
  pub spent : length seat.mine + lines_by 0 (drop place script.lines) ≤ lines_by 0 script.lines

-- what is kept of frames is that of the history seen
abbrev pub FilmStands : Script → List Entry → RaceFrames → Type 0
FilmStands script history film = StoreStands script history film.store

-- Before the first frame, of so many displays none is lost.
pub record IsNewFilm (script : Script) (displays : ℕ) (film : RaceFrames) : Type 0 where
  pub stands : FilmStands script [] film
  pub none : film.set.lost ≡ []
  pub number : displays ≡ film.set.displays
  pub few : film.set.displays < 2 ^ 32

-- The whole compositor stands at a place.
pub record CompositorStands (script : Script) (view : StageView) (place : ℕ) (compositor : CompositorView)
    (film : RaceFrames) : Type 0 where
  pub seat : SeatStands script view place compositor.display
  pub opened : is_frame_open (history_of compositor.display.seen) ≡ compositor.is_open
  pub frames : FramesStand script (history_of compositor.display.seen) compositor.start film.store

-- The compositor stopped somewhere in its lines. Displays of a type tell these frames, and have these counts
-- of faults: they have had the frames of the history that it has seen.
pub record HasStopped {D : Type 0} (told : D → Option (List FrameOut)) (count : D → ℕ) (script : Script)
    (view : StageView) (seat : DisplayView) (olds news : List D) : Type 0 where
  pub place : ℕ
  pub stands : SeatStands script view place seat
  pub lost : List LostDisplay
  pub driven : AreDriven told count lost (finished script.setup (history_of seat.seen)) olds news

-- It went through all its lines. What is kept, published and shown of frames is that of the history that it has seen.
pub record HasDirected {D : Type 0} (told : D → Option (List FrameOut)) (count : D → ℕ) (script : Script)
    (view : StageView) (seat : DisplayView) (was now : RaceFrames) (sent : Publishing) (olds news : List D) : Type 0
  where
    pub stands : SeatStands script view (length script.lines) seat
    pub film : FilmStands script (history_of seat.seen) now
    pub keeping : keeping_of now.store.kept ≡ keeping_of was.store.kept
    pub published : PublishedStand script (history_of seat.seen) sent
    pub seen : HaveSeen told count (finished script.setup (history_of seat.seen)) (history_of seat.seen) now.set.lost
        olds news

-- ---- what one line does

-- The compositor looked, and may have seen more; it made no entry.
pub record HasLooked (setup : Setup) (old new : CompositorView) : Type 0 where
  pub sees : DisplaySees old.display new.display
  pub legal : Legal setup (history_of new.display.seen)
  pub whole : new.display.mine ≡ entries_of_seat 0 new.display.seen
  pub keeps : KeepsStart old new

-- It looked, and then made the entry of a line that begins no frame and ends none.
pub record EntersBeside (setup : Setup) (number : ℕ) (text : DisplayLine) (old new : CompositorView) : Type 0 where
  pub looked : CompositorView
  pub looks : HasLooked setup old looked
  pub reply : Reply
  pub enters : DisplayEnters number (entry_of_display text) reply looked.display new.display
  pub keeps : KeepsStart looked new

-- ---- what becomes of frames and displays, which tell these frames and have these counts of faults

-- The next frame is kept, and shown to the displays that aren't lost.
pub record FinishesFrame {D : Type 0} (told : D → Option (List FrameOut)) (count : D → ℕ) (script : Script)
    (history : List Entry) (start : FrameStart) (was now : RaceFrames) (olds news : List D) : Type 0 where
  pub next : FinishesNext script history start was.store now.store
  pub shown : IsShown told count (finished script.setup history)
      (finished script.setup history ++ frame_at script.setup (frames history + 1) (to_begin history) ∷ [])
      was.set now.set olds news

-- A line was gone through: if it finished a frame, this is to be published, and the displays have had it.
pub record Directs {D : Type 0} (told : D → Option (List FrameOut)) (count : D → ℕ) (setup : Setup)
    (old new : CompositorView) (was now : RaceFrames) (olds news : List D) : Type 0 where
  pub finishes : FinishesOne setup (history_of old.display.seen) (history_of new.display.seen)
  pub shown : IsShown told count (finished setup (history_of old.display.seen))
      (finished setup (history_of new.display.seen)) was.set now.set olds news
  pub keeping : keeping_of now.store.kept ≡ keeping_of was.store.kept

-- Out of memory, nothing was entered or shown.
pub record EntersNothing {D : Type 0} (old new : CompositorView) (was now : RaceFrames) (olds news : List D) : Type 0
  where
    pub compositor : new ≡ old
    pub set : now.set ≡ was.set
    pub displays : news ≡ olds
