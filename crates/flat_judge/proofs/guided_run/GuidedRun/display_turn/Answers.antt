use Rattle.std.proofs.Common.{◌+◌, ap, ◌∙◌}
use Rattle.flat_judge.specs.GuidedRuns.{DisplayGoes}
use Rattle.flat_judge.proofs.Growth.{display-stays}
use Rattle.flat_judge.proofs.guided_run.GuidedRun.display_turn.Goals as goal

pub loop-preserved : goal.loop-preserved
loop-preserved c = (
  c.in_ok-display_step.ensures.stands,
  c.in_ok-display_step.ensures.place ∙ ap (λ n. n + 1) c.loop.invariant.1,
  c.in_ok-display_step.ensures.seats ∙ c.loop.invariant.2,
  display-stays c.loop.self.screen.board c.display_step.new.self.screen.board c.in_ok-display_step.field-0 c.if-branch.false c.in_ok-display_step.ensures.goes
      ∙ c.loop.invariant.3,
  c.display_step.ensures.answers ∙ c.loop.invariant.4,
)

pub returns-clause-goes : goal.returns-clause-goes
returns-clause-goes c = DisplayGoes.stays c.loop.invariant.3
