use Rattle.flat_rules.proofs.WatchersLocal.{watching-is-local}
use Rattle.flat_rules.proofs.laws.watching_is_local.Goals as goal

pub returns : goal.returns
returns c = watching-is-local
