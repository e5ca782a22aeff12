use Rattle.flat_rules.proofs.Neighbour.{glimpses-decide-outcomes, others-post-none}
use Rattle.flat_rules.proofs.laws.glimpses_decide_outcomes.Goals as goal

pub returns-clause-decided : goal.returns-clause-decided
returns-clause-decided c = glimpses-decide-outcomes

pub returns-clause-others : goal.returns-clause-others
returns-clause-others c = others-post-none
