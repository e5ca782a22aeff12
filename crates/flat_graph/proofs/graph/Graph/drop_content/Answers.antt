use Rattle.flat_graph.proofs.Soundness.{graph-without}
use Rattle.flat_graph.proofs.graph.Graph.drop_content.Goals as goal

pub invariant_of-self : goal.invariant_of-self
invariant_of-self c = rw c.drop_held.ensures (graph-without _ _ c.args.serial c.self.invariant)
