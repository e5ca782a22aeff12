use Rattle.flat_rules.proofs.FramesLocal.{released-is-local}
use Rattle.flat_rules.proofs.laws.released_is_local.Goals as goal

pub returns : goal.returns
returns c = released-is-local
