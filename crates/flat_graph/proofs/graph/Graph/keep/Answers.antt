use Rattle.flat_graph.proofs.Soundness.{graph-marked}
use Rattle.flat_graph.proofs.graph.Graph.keep.Goals as goal

pub invariant_of-self : goal.invariant_of-self
invariant_of-self c = rw (c.keep_marked.ensures.kept, c.keep_marked.ensures.places)
    (graph-marked _ _ c.args.marks.now c.self.invariant (rw (← c.self.view_is) at c.requires))
