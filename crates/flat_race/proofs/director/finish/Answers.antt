use Rattle.std.proofs.Common.{◌≡◌, suc, ◌+◌, List, length, refl, sym, subst, arith}
use Rattle.flat_core.specs.declared.start.FrameStart.{FrameStart}
use Rattle.flat_core.specs.Starts.{IsStart}
use Rattle.flat_scene.specs.declared.frames.FrameOut.{FrameOut}
use Rattle.flat_rules.specs.Ends.{to_begin}
use Rattle.flat_rules.specs.Legal.{frames}
use Rattle.flat_report.specs.Report.{finished, frame_at}
use Rattle.flat_play.specs.Showing.{IsShown}
use Rattle.flat_play.specs.Storing.{FinishesNext}
use Rattle.flat_play.proofs.lemmas.Seen.{finished_length}
use Rattle.flat_race.proofs.director.finish.Goals as goal

pub returns-clause-finishes : goal.returns-clause-finishes
returns-clause-finishes g c = λ history stored starts.
    let script = c.args.context.now.script.now in
    let before : List FrameOut = finished script.setup history in
    let frame : FrameOut = frame_at script.setup (frames history + 1) (to_begin history) in
    let counted = finished_length script.setup history in
    let number : frame.frame.0 ≡ suc (length before) = omega (arith, counted) in
    let I : FrameStart → Type 0 = IsStart script.setup history in
    let N : FrameStart → Type 0 = λ start. FinishesNext script history start c.args.film.now.store c.finish.new.self in
    let next = subst N c.start.ensures.is (c.in_ok-finish.ensures.finishes history stored (subst I (sym c.start.ensures.is) starts)) in
    let shows = c.show.ensures.shows script before frame (next.kept.more before stored.keeps) in
    record { next = next; shown = IsShown.shows_frame frame shows.0 refl number shows.1 shows.2 }

pub returns-clause-displays : goal.returns-clause-displays
returns-clause-displays g c = record { count = c.show.ensures.same; kinds = c.show.ensures.kinds }
