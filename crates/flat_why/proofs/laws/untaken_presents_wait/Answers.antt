use Rattle.flat_why.proofs.Untaken.{untaken-presents-wait}
use Rattle.flat_why.proofs.laws.untaken_presents_wait.Goals as goal

pub returns : goal.returns
returns c = untaken-presents-wait
