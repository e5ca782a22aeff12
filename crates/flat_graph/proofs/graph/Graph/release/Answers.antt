use Rattle.flat_graph.proofs.Soundness.{graph-released}
use Rattle.flat_graph.proofs.graph.Graph.release.Goals as goal

pub invariant_of-self : goal.invariant_of-self
invariant_of-self c = rw c.remove_name.ensures.items (graph-released _ c.args.t.0 _ c.self.invariant)
