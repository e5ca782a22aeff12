use Rattle.std.proofs.Common.{◌≡◌, ◌≤◌, suc, ℕ, length, map, Option, IfSome, ap, ◌∙◌, subst, arith}
use Rattle.flat_scene.specs.History.{◌▹◌}
use Rattle.flat_rules.specs.Ends.{to_begin}
use Rattle.flat_rules.specs.Legal.{frames}
use Rattle.flat_report.specs.FrameTexts.{frame_text}
use Rattle.flat_report.specs.Report.{frame_at}
use Rattle.flat_page.specs.Words.{text_of}
use Rattle.flat_lines.specs.FrameLines.{lost_line}
use Rattle.flat_judge.specs.Following.{Passes, ReadsLosses, Stays}
use Rattle.flat_judge.proofs.LossesTold.{pass-on}
use Rattle.flat_judge.proofs.LastEntry.{before-finish}
use Rattle.flat_judge.proofs.OneMore.{frame-parts, frame-passes, frames-upto, losses-later}
use Rattle.flat_judge.proofs.following.ReplayProgress.tell_frame.Goals as goal

pub read_losses-requires : goal.read_losses-requires
read_losses-requires c =
    let W : Option ℕ → Type 0 = λ found. IfSome found (λ next. next ≤ length c.args.text.now) in
    record { within = subst W c.in-Some.is c.pass_frame.ensures.within }

pub returns-in_ok-behind-in-Some-clause-tells : goal.returns-in_ok-behind-in-Some-clause-tells
returns-in_ok-behind-in-Some-clause-tells c = λ before entry is finish line.
    let script = c.args.script.now in
    let text = c.args.text.now in
    let along = c.args.self.now in
    let fb = frame_text script (frame_at script.setup (suc (frames before)) (to_begin before)) in
    let P : Option ℕ → Type 0 = Passes text along.at fb in
    let number : c.args.screen.now.store.last.frame.0 ≡ suc (frames before) =
    before-finish before entry finish c.args.screen.now.store.last.frame.0 (c.requires.shows.frames.stored.ends.number ∙ ap frames is) in
    let R : ℕ → Type 0 = λ n. ReadsLosses n along.lost c.read_losses.new.lost text c.in-Some.at c.in_ok-behind-in-Some.behind in
    let passes = subst P c.in-Some.is (c.pass_frame.ensures.passes script before entry c.requires.shows is finish) in
    let reads = subst R number c.in_ok-behind-in-Some.ensures.reads in
    let first = pass-on text along.at c.in-Some.at fb c.requires.within passes in
    let second = pass-on text c.in-Some.at c.in_ok-behind-in-Some.behind (text_of (map lost_line reads.more)) passes.0 reads.passes in
    Stays.stays (frame-passes script text before entry finish along line c.in-Some.at c.in_ok-behind-in-Some.behind c.read_losses.new.lost passes reads
    c.in_ok-behind-in-Some.ensures.within) (omega (arith, first, second))

pub returns-in-None-clause-tells : goal.returns-in-None-clause-tells
returns-in-None-clause-tells c = λ before entry is finish line.
    let script = c.args.script.now in
    let text = c.args.text.now in
    let along = c.args.self.now in
    let fb = frame_text script (frame_at script.setup (suc (frames before)) (to_begin before)) in
    let P : Option ℕ → Type 0 = Passes text along.at fb in
    Stays.parts (frame-parts script text before entry finish along line
    (subst P c.in-None.is (c.pass_frame.ensures.passes script before entry c.requires.shows is finish)))
    (losses-later (frames before) (frames (before ▹ entry)) along.lost (frames-upto before entry) line.losses)
