use Rattle.std.proofs.Common.{sym, ◌∙◌}
use Rattle.flat_collect.proofs.Judging.{good_walked, empty_good}
use Rattle.flat_collect.proofs.judge.Goals as goal

pub returns-in_default : goal.returns-in_default
returns-in_default c = empty_good c.args.graph.now (sym c.root.ensures.value ∙ c.in_default.is)

pub returns-then-has_twice : goal.returns-then-has_twice
returns-then-has_twice c =
    let walked = rw (c.if-branch.true, c.new-viewports.ensures.items) at c.in_ok-walk.ensures in
    let good = good_walked c.args.graph.now c.in-Some.root _ _ (sym c.root.ensures.value ∙ c.in-Some.is) walked in
    (good.acyclic, good.small, rw (← good.listed, ← c.has_twice.ensures) c.if-has_twice.true)

pub returns-then-branch : goal.returns-then-branch
returns-then-branch c =
    let walked = rw (c.if-branch.true, c.new-viewports.ensures.items) at c.in_ok-walk.ensures in
    let good = good_walked c.args.graph.now c.in-Some.root _ _ (sym c.root.ensures.value ∙ c.in-Some.is) walked in
    (record { acyclic = good.acyclic; small = good.small; once = rw (← good.listed, ← c.has_twice.ensures) c.if-has_twice.false }, good.counted)
