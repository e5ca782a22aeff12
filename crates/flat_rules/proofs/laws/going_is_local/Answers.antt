use Rattle.flat_rules.proofs.FramesLocal.{going-is-local}
use Rattle.flat_rules.proofs.laws.going_is_local.Goals as goal

pub returns : goal.returns
returns c = going-is-local
