use Rattle.flat_rules.proofs.FramesLocal.{taken-is-local}
use Rattle.flat_rules.proofs.laws.taken_is_local.Goals as goal

pub returns : goal.returns
returns c = taken-is-local
