use Rattle.flat_rules.proofs.FramesLocal.{signalled-is-local}
use Rattle.flat_rules.proofs.laws.signalled_is_local.Goals as goal

pub returns : goal.returns
returns c = signalled-is-local
