use Rattle.std.proofs.Common.{inl, inr, ◌∙◌, arith}
use Rattle.flat_judge.proofs.Growth.{grown-display, grown-on}
use Rattle.flat_judge.proofs.guided_run.GuidedRun.end_display.Goals as goal

pub returns-then-not-branch-clause-grown : goal.returns-then-not-branch-clause-grown
returns-then-not-branch-clause-grown c = grown-on _ _ _ c.loop.invariant.2 (grown-display _ _ _ c.in_ok-display_turn.ensures.goes)

pub loop-preserved : goal.loop-preserved
loop-preserved c =
    let low = c.loop.invariant.1 in
    let below = c.loop-test.true in (
      c.in_ok-display_turn.ensures.stands,
      elim c.in_ok-display_turn.ensures.place [
        | inl end ↦ (let stop = c.loop.auto.counter-end in omega (arith, end, below, stop, c.len-end.ensures))
        | inr more ↦ omega (arith, low, more)
      ],
      grown-on _ _ _ c.loop.invariant.2 (grown-display _ _ _ c.in_ok-display_turn.ensures.goes),
      c.in_ok-display_turn.ensures.answers ∙ c.loop.invariant.3,
    )
