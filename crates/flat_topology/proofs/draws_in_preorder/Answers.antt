use Rattle.flat_topology.proofs.Ordered.{draws-in-preorder}
use Rattle.flat_topology.proofs.draws_in_preorder.Goals as goal

pub returns : goal.returns
returns c = draws-in-preorder
