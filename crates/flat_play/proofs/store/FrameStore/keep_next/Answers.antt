use Rattle.std.proofs.Common.{◌≡◌, ℕ, ◌+◌, ◌<◌, length, ap, sym, ◌∙◌, subst, arith, OnOk}
use Rattle.flat_scene.specs.declared.frames.FrameOut.{FrameOut}
use Rattle.flat_rules.specs.Ends.{to_begin, to_finished}
use Rattle.flat_rules.specs.Legal.{frames}
use Rattle.flat_report.specs.Report.{finished, frame_at}
use Rattle.flat_play.specs.declared.frame.LastFrame.{LastFrame}
use Rattle.flat_play.specs.declared.store.FrameStore.{FrameStore}
use Rattle.flat_play.specs.Keeping.{KeepsMore}
use Rattle.flat_play.specs.Last.{ShowsStart}
use Rattle.flat_play.proofs.Unchanged.{in-any-case, last-finished, next-unchanged}
use Rattle.flat_play.proofs.store.FrameStore.keep_next.Goals as goal

-- ---- with the items of the last one

pub returns-then-stays-clause-keeps : goal.returns-then-stays-clause-keeps
returns-then-stays-clause-keeps c = λ history stands starts.
    let script = c.args.script.now in
    let setup = script.setup in
    let self = c.args.self.now in
    let start = c.args.start.now in
    let number = stands.ends.number in
    let some : 0 < frames history = omega (arith, number, c.stays.ensures.some c.if-stays.true) in
    let long : length self.last.reuse ≡ length start.shown = stands.ends.is.count ∙ sym c.requires.follows.count in
    let shows = c.stays.ensures.shown long c.requires.follows.same c.if-stays.true in
    let more = c.keep_unchanged.ensures.keeps (finished setup history) (frame_at setup (frames history) (to_finished history)) stands.keeps
    (last-finished setup history some) in
    let M : FrameOut → Type 0 = λ frame. OnOk c.keep_unchanged.result (KeepsMore script frame self.kept c.keep_unchanged.new.self.kept) in
    subst M (next-unchanged setup history self.last start stands.ends starts shows (c.stays.ensures.ratio c.if-stays.true) c.requires.setup
    c.trees_follow.ensures.views) more

pub returns-then-stays-clause-shows : goal.returns-then-stays-clause-shows
returns-then-stays-clause-shows c = λ is.
    let setup = c.args.script.now.setup in
    let start = c.args.start.now in
    let long : length c.args.self.now.last.reuse ≡ length start.shown = is.count ∙ sym c.requires.follows.count in
    let P : LastFrame → Type 0 = ShowsStart setup start in
    in-any-case c.keep_unchanged.result (subst P (sym (ap (λ (s : FrameStore). s.last) c.keep_unchanged.ensures.others)) (record {
      is = is;
      shows = c.stays.ensures.shown long c.requires.follows.same c.if-stays.true;
      scales = c.stays.ensures.ratio c.if-stays.true;
    }))

-- ---- composed

pub returns-clause-keeps : goal.returns-clause-keeps
returns-clause-keeps c = λ history stands starts.
    let script = c.args.script.now in
    let composed : c.in_ok-frame.frame ≡ frame_at script.setup (frames history + 1) (to_begin history) =
    c.in_ok-frame.ensures.frame history starts ∙ ap (λ (n : ℕ). frame_at script.setup (n + 1) (to_begin history)) stands.ends.number in
    let M : FrameOut → Type 0 = λ frame. OnOk c.keep.result (KeepsMore script frame c.args.self.now.kept c.keep.new.self) in
    subst M composed c.keep.ensures

pub returns-clause-shows : goal.returns-clause-shows
returns-clause-shows c = λ is. in-any-case c.keep.result c.in_ok-frame.ensures.shows
