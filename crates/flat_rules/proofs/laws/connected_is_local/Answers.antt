use Rattle.flat_rules.proofs.WatchersLocal.{connected-is-local}
use Rattle.flat_rules.proofs.laws.connected_is_local.Goals as goal

pub returns : goal.returns
returns c = connected-is-local
