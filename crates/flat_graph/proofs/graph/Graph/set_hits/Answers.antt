use Rattle.std.proofs.Common.{sym, refl}
use Rattle.flat_graph.proofs.Soundness.{graph-set}
use Rattle.flat_graph.proofs.graph.Graph.set_hits.Goals.{in-Some+in-Some-1, in-Some+in-None-1, in_default}
use Rattle.flat_graph.proofs.graph.Graph.set_hits.Goals as goal

pub invariant_of-self : goal.invariant_of-self
invariant_of-self c = elim c.match-get_mut.branch [
  | in-Some+in-Some-1 w ↦
      (let there = rw w.in-Some.is at c.get_mut.ensures.value in
      rw w.self-inside-is (graph-set _ _ c.in_ok-key.key _ _ c.self.invariant (sym there) refl))
  | in-Some+in-None-1 w ↦
      (let there = rw w.in-Some.is at c.get_mut.ensures.value in
      rw w.self-inside-is (graph-set _ _ c.in_ok-key.key _ _ c.self.invariant (sym there) refl))
  | in_default w ↦ rw w.self-inside-is c.self.invariant
]
