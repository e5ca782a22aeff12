use Rattle.flat_rules.proofs.WatchersLocal.{ratio-is-local}
use Rattle.flat_rules.proofs.laws.ratio_is_local.Goals as goal

pub returns : goal.returns
returns c = ratio-is-local
