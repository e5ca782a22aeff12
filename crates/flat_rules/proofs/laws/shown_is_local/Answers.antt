use Rattle.flat_rules.proofs.WatchersLocal.{shown-is-local}
use Rattle.flat_rules.proofs.laws.shown_is_local.Goals as goal

pub returns : goal.returns
returns c = shown-is-local
