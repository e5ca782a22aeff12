use Rattle.flat_rules.proofs.WatchersLocal.{told-is-local}
use Rattle.flat_rules.proofs.laws.told_is_local.Goals as goal

pub returns : goal.returns
returns c = told-is-local
