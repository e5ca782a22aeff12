use Rattle.std.proofs.Common.{◌≡◌, ◌∙◌, ap, sym}
use Rattle.flat_graph.specs.Names.{keys_named}
use Rattle.flat_graph.proofs.Soundness.{graph-changed, kept-named}
use Rattle.flat_graph.proofs.graph.Graph.replace_children.Goals.{in-Some, in_default-get_mut}
use Rattle.flat_graph.proofs.graph.Graph.replace_children.Goals as goal

pub invariant_of-self : goal.invariant_of-self
invariant_of-self c = elim c.match-get_mut.branch [
  | in-Some w ↦
      (let there = sym (rw w.in-Some.is at c.get_mut.ensures.value) in
      let named : c.in-Ok.keys ≡ keys_named c.self.inside.names.items c.args.children.now =
      c.in-Ok.ensures ∙ ap (λ names. keys_named names c.args.children.now) c.deref.ensures.value in
      rw w.self-inside-is (graph-changed _ _ c.in_ok-over.over _ _ c.self.invariant there
      (λ child has. kept-named _ c.self.invariant.sound c.args.children.now child (rw named at has))))
  | in_default-get_mut w ↦ rw w.self-inside-is c.self.invariant
]
