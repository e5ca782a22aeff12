use Rattle.std.proofs.Common.{◌≡◌, ◌≤◌, ℕ, List, [], length, drop, Option, IfSome, sym, subst, arith}
use Rattle.flat_scene.specs.declared.frames.LostDisplay.{LostDisplay}
use Rattle.flat_judge.specs.Following.{ReadsLoss, ReadsLosses}
use Rattle.flat_judge.proofs.LossesTold.{reading-ends, reading-more, reading-none, stops-at-end}
use Rattle.flat_judge.proofs.Partings.{drop-past}
use Rattle.flat_judge.proofs.losses.read_losses.Goals as goal

pub loop-init : goal.loop-init
loop-init c = (reading-none c.args.frame.0 c.args.lost.now c.args.text.now c.args.at c.requires.within, c.requires.within, omega arith)

pub returns-in-None-clause-reads : goal.returns-in-None-clause-reads
returns-in-None-clause-reads c =
    let none = c.in_ok-next.ensures.none c.in-None.is in
    let R : List LostDisplay → Type 0 = λ ls. ReadsLosses c.args.frame.0 c.args.lost.now ls c.args.text.now c.args.at c.loop.place in
    subst R (sym none.0) (reading-ends c.args.frame.0 c.args.lost.now c.loop.lost c.args.text.now c.args.at c.loop.place c.loop.invariant.0 none.1)

pub loop-preserved : goal.loop-preserved
loop-preserved c =
    let F : Option ℕ → Type 0 = λ found. IfSome found (λ next. (next ≤ length c.args.text.now)
    × ReadsLoss c.args.frame.0 c.loop.lost c.read_loss.new.lost c.args.text.now c.loop.place next) in
    let one = subst F c.in-Some.is c.in_ok-next.ensures.some in
    let low = c.loop.invariant.2 in
    let further = one.1.further in (
      reading-more c.args.frame.0 c.args.lost.now c.loop.lost c.read_loss.new.lost c.args.text.now c.args.at c.loop.place c.in-Some.next c.loop.invariant.0
          one.1,
      one.0,
      omega (arith, low, further),
    )

pub returns-clause-reads : goal.returns-clause-reads
returns-clause-reads c =
    let low = c.loop.invariant.2 in
    let end : drop c.loop.place c.args.text.now ≡ [] = drop-past c.args.text.now c.loop.place
    (omega (arith, low, c.loop-test.false, c.loop.auto.counter-end, c.requires.within)) in
    reading-ends c.args.frame.0 c.args.lost.now c.loop.lost c.args.text.now c.args.at c.loop.place c.loop.invariant.0
    (stops-at-end c.args.frame.0 c.loop.lost (drop c.loop.place c.args.text.now) end)
