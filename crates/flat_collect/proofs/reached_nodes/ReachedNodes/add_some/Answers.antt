use Rattle.flat_collect.proofs.Finding.{root-listed}
use Rattle.flat_collect.proofs.reached_nodes.ReachedNodes.add_some.Goals as goal

pub add-requires-clause-within : goal.add-requires-clause-within
add-requires-clause-within c = c.requires.within c.in-Some.key (root-listed c.args.key c.in-Some.key c.in-Some.is)
