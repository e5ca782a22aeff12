-- What is known of a race once its threads have ended.
use Rattle.std.proofs.Common.{◌≡◌, ℕ, List, map, Option, None, Some, Result, Ok, Err, IfErr, IfOk, refl, sym, subst}
use Rattle.flat_scene.specs.declared.frames.FrameOut.{FrameOut}
use Rattle.flat_scene.specs.Journals.{history_of}
use Rattle.flat_report.specs.Report.{finished}
use Rattle.flat_stage.specs.Seats.{StageView}
use Rattle.flat_places.specs.declared.script.Script.{Script}
use Rattle.flat_race.specs.declared.running.RaceState.{RaceState}
use Rattle.flat_race.specs.declared.running.StoppedRace.{StoppedRace}
use Rattle.flat_display.specs.Had.{AreKept}
use Rattle.flat_play.specs.declared.kept_frames.FramesToKeep.{FramesToKeep}
use Rattle.flat_play.specs.declared.whole.FinishedPlay.{FinishedPlay}
use Rattle.flat_play.specs.Beginning.{AreBegun}
use Rattle.flat_play.specs.Runs.{HasRun}
use Rattle.flat_play.proofs.lemmas.Begun.{none-begun}
use Rattle.flat_play.proofs.lemmas.Seen.{kept_none}
use Rattle.flat_race.specs.Ends.{HaveRaced, IsStopped}

pub ok_raced : (r : Result RaceState (Option StoppedRace)) (e : RaceState) → r ≡ Ok e → {D : Type 0} (told : D → Option (List FrameOut)) (count : D → ℕ)
    (view : StageView) (script : Script) (olds news : List D) (was : RaceState) → IfOk r (λ e. HaveRaced told count view script olds news was e)
    → HaveRaced told count view script olds news was e
ok_raced r e is told count view script olds news was holds =
    let P : Result RaceState (Option StoppedRace) → Type 0 = λ r. IfOk r (λ e. HaveRaced told count view script olds news was e) in
    subst P is holds

-- frames are kept in the way that was asked for
pub run_as : {D E : Type 0} (told : D → Option (List FrameOut)) (count : D → ℕ) (script : Script) (olds news : List D) (was now : FramesToKeep)
    (r : Result FinishedPlay E)
    → was ≡ now → IfOk r (HasRun told count script olds news was) → IfOk r (HasRun told count script olds news now)
run_as told count script olds news was now r same holds = subst (λ (k : FramesToKeep). IfOk r (HasRun told count script olds news k)) same holds

-- What is known where an actor found no memory.
module _ {D K : Type 0} (told : D → Option (List FrameOut)) (count : D → ℕ) (kind : D → K) (view : StageView) (script : Script) (olds news : List D) where
  kept_where : (why : Option StoppedRace) → IsStopped told count view script olds news why → map kind news ≡ map kind olds
      → ((one : StoppedRace) → why ≡ Some one → AreBegun script (finished script.setup (history_of one.compositor.display.seen)))
      → AreKept told count (AreBegun script) olds news kind
  kept_where (Some stopped) stops kinds begun = record {
    kinds = kinds;
    some = (stops.stopped.lost, finished script.setup (history_of stopped.compositor.display.seen), begun stopped refl, stops.stopped.driven);
  }
  kept_where None same kinds begun =
      let K : List D → Type 0 = λ ds. AreKept told count (AreBegun script) olds ds kind in
      subst K (sym same) (kept_none told count (AreBegun script) kind olds (none-begun script))

  pub kept_stopped : (r : Result RaceState (Option StoppedRace)) → IfErr r (λ stopped. IsStopped told count view script olds news stopped)
      → (why : Option StoppedRace)
      → r ≡ Err why → map kind news ≡ map kind olds → ((one : StoppedRace) → why ≡ Some one
      → AreBegun script (finished script.setup (history_of one.compositor.display.seen)))
      → AreKept told count (AreBegun script) olds news kind
  kept_stopped r holds why is kinds begun =
      let P : Result RaceState (Option StoppedRace) → Type 0 = λ r. IfErr r (λ stopped. IsStopped told count view script olds news stopped) in
      let stops : IsStopped told count view script olds news why = subst P is holds in
      kept_where why stops kinds begun
