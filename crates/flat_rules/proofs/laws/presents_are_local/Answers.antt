use Rattle.flat_rules.proofs.FramesLocal.{presents-are-local}
use Rattle.flat_rules.proofs.laws.presents_are_local.Goals as goal

pub returns : goal.returns
returns c = presents-are-local
