use Rattle.std.proofs.Common.{◌∙◌}
use Rattle.flat_judge.proofs.Growth.{grown-on}
use Rattle.flat_judge.proofs.guided_run.GuidedRun.end_sessions.Goals as goal

pub loop-k-preserved : goal.loop-k-preserved
loop-k-preserved c = (
  c.in_ok-end_session.ensures.stands,
  c.in_ok-end_session.ensures.ended,
  c.in_ok-end_session.ensures.place ∙ c.loop-k.invariant.2,
  grown-on _ _ _ c.loop-k.invariant.3 c.in_ok-end_session.ensures.grown,
  c.in_ok-end_session.ensures.answers ∙ c.loop-k.invariant.4,
)
