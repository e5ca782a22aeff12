-- What the seats of a race are before any entry, and once all actors came to their end or stopped on the way.
use Rattle.std.specs.Prelude.{◌≡◌, ℕ, Bool, true, List, length, Option, Some, None}
use Rattle.flat_scene.specs.declared.frames.FrameOut.{FrameOut}
use Rattle.flat_scene.specs.Journals.{history_of}
use Rattle.flat_places.specs.declared.script.Script.{Script}
use Rattle.flat_stage.specs.Displays.{DisplayView, IsNewCompositor}
use Rattle.flat_stage.specs.Homes.{AreFresh, SeatsView}
use Rattle.flat_stage.specs.Seats.{StageView}
use Rattle.flat_race.specs.declared.race_frames.RaceFrames.{RaceFrames}
use Rattle.flat_report.specs.Probes.{ProbesAnswered}
use Rattle.flat_report.specs.Report.{finished}
use Rattle.flat_rules.specs.Legal.{frames}
use Rattle.flat_play.specs.declared.whole.FinishedPlay.{FinishedPlay}
use Rattle.flat_play.specs.Keeping.{keeping_of}
use Rattle.flat_play.specs.Playing.{HasPlayed}
use Rattle.flat_play.specs.Showing.{HaveSeen}
use Rattle.flat_playable.specs.Playable.{is_playable}
use Rattle.flat_race.specs.Directing.{FilmStands, HasStopped, IsNewFilm, SeatStands}
use Rattle.flat_race.specs.Sessions.{IsStageOf}
use Rattle.flat_race.specs.declared.running.RaceHalt.{RaceHalt}
use Rattle.flat_race.specs.declared.running.RaceHalt.TheVariants.{Early, Late}
use Rattle.flat_race.specs.declared.running.RaceState.{RaceState}
use Rattle.flat_race.specs.declared.running.StoppedRace.{StoppedRace}
use Rattle.flat_race.specs.SessionThreads.{AreBack}

-- A race of the script may start on its stage: no actor has made an entry, and there is no frame yet.
pub record MayRace (view : StageView) (script : Script) (displays : ℕ) (state : RaceState) : Type 0 where
  pub playable : is_playable script ≡ true
  pub of : IsStageOf view script
  pub fresh : IsNewCompositor view state.compositor
  pub own : state.seats.stage ≡ view
  pub sessions : AreFresh view script.setup.sessions state.seats.seats
  pub none : IsNewFilm script displays state.film

-- The compositor has read all its lines, and so has each session, which ended; and the lines of all probes
-- are answered.
pub record HaveEnded (view : StageView) (script : Script) (compositor : DisplayView) (seats : SeatsView)
    (film : RaceFrames) : Type 0 where
  pub directed : SeatStands script view (length script.lines) compositor
  pub kept : FilmStands script (history_of compositor.seen) film
  pub own : seats.stage ≡ view
  pub back : AreBack view script 0 true seats.seats
  pub probed : ProbesAnswered script (history_of compositor.seen) film.probes.items

-- The compositor stands somewhere in its lines, and each session is back, from its End or from before it.
pub record AreAtRest (view : StageView) (script : Script) (compositor : DisplayView) (seats : SeatsView) : Type 0 where
  pub place : ℕ
  pub directed : SeatStands script view place compositor
  pub own : seats.stage ≡ view
  pub are_whole : Bool
  pub back : AreBack view script 0 are_whole seats.seats

-- What a race hands out once its stage is closed.
pub record IsHandedOut (script : Script) (compositor : DisplayView) (film : RaceFrames) (out : FinishedPlay) : Type 0
  where
    pub played : HasPlayed script out.board out.kept out.answers
    pub probes : ProbesAnswered script out.board.history out.probes.items
    pub kept : out.kept ≡ film.store.kept
    pub set : out.set ≡ film.set
    pub finishes : finished script.setup out.board.history ≡ finished script.setup (history_of compositor.seen)
    pub as_many : frames out.board.history ≡ frames (history_of compositor.seen)

-- Displays of a type tell these frames, and have these counts of faults.
module _ {D : Type 0} (told : D → Option (List FrameOut)) (count : D → ℕ) (view : StageView) (script : Script)
    (olds news : List D) where
  -- All actors came to their end. What is kept of frames, in the same way as before, and what the displays have had
  -- is that of the history that the compositor has seen.
  pub record HaveRaced (was now : RaceState) : Type 0 where
    pub ended : HaveEnded view script now.compositor.display now.seats now.film
    pub keeping : keeping_of now.film.store.kept ≡ keeping_of was.film.store.kept
    pub seen : HaveSeen told count (finished script.setup (history_of now.compositor.display.seen))
        (history_of now.compositor.display.seen) now.film.set.lost olds news

  -- All actors stopped, and the displays have had the frames of the history that the compositor has seen.
  pub record HaveStopped (compositor : DisplayView) (seats : SeatsView) : Type 0 where
    pub rest : AreAtRest view script compositor seats
    pub stopped : HasStopped told count script view compositor olds news

  -- Once the compositor had begun, all actors stopped so; before that, nothing was shown.
  abbrev pub StopsAt : DisplayView → SeatsView → RaceHalt → Type 0
  StopsAt compositor seats Early = news ≡ olds
  StopsAt compositor seats Late = HaveStopped compositor seats

  -- the same of what they leave
  abbrev pub IsStopped : Option StoppedRace → Type 0
  IsStopped None = news ≡ olds
  IsStopped (Some stopped) = HaveStopped stopped.compositor.display stopped.seats
