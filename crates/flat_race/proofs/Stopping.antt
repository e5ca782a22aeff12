-- The compositor stops somewhere in its lines.
use Rattle.std.proofs.Common.{◌≡◌, ℕ, List, Option, sym, subst}
use Rattle.flat_scene.specs.declared.frames.FrameOut.{FrameOut}
use Rattle.flat_scene.specs.declared.frames.LostDisplay.{LostDisplay}
use Rattle.flat_scene.specs.Journals.{history_of}
use Rattle.flat_places.specs.declared.script.Script.{Script}
use Rattle.flat_report.specs.Report.{finished}
use Rattle.flat_stage.specs.Displays.{CompositorView}
use Rattle.flat_stage.specs.Seats.{StageView}
use Rattle.flat_play.specs.Showing.{HaveSeen}
use Rattle.flat_race.specs.declared.race_frames.RaceFrames.{RaceFrames}
use Rattle.flat_race.specs.Directing.{CompositorStands, HasStopped}

-- it is as it was, and displays are too
pub stopped_at : {D : Type 0} (told : D → Option (List FrameOut)) (count : D → ℕ) (script : Script) (view : StageView) (place : ℕ) (was now : CompositorView)
    → now ≡ was → (film : RaceFrames) → CompositorStands script view place was film → (lost : List LostDisplay) (olds mids news : List D) → news ≡ mids
    → HaveSeen told count (finished script.setup (history_of was.display.seen)) (history_of was.display.seen) lost olds mids
    → HasStopped told count script view now.display olds news
stopped_at {D} told count script view place was now same film stands lost olds mids news same_displays seen =
    let H : CompositorView → Type 0 = λ c. HasStopped told count script view c.display olds news in
    let N : List D → Type 0 = λ ds. HasStopped told count script view was.display olds ds in
    subst H (sym same) (subst N (sym same_displays) (record { place = place; stands = stands.seat; lost = lost; driven = seen.driven }))
