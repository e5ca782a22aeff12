use Rattle.std.proofs.Common.{◌≡◌, refl, ap, sym, ◌∙◌, Some, ◌+◌, arith}
use Rattle.std.specs.Prelude.{is_some, false}
use Rattle.std.proofs.Common.{rules}
use Rattle.slab.specs.Slab.{Slab}
use Rattle.flat_graph.specs.declared.nodes.GraphNode.{GraphNode}
use Rattle.flat_graph.specs.Names.{key_named}
use Rattle.flat_graph.specs.State.{new_node}
use Rattle.flat_graph.proofs.Soundness.{graph-created, AddsNode, on_ok, is-none}
use Rattle.flat_graph.proofs.graph.Graph.create.Goals as goal

pub invariant_of-self-2 : goal.invariant_of-self-2
invariant_of-self-2 c =
    let slots : c.reserve.new.self.slots ≡ c.self.inside.nodes.slots = ap (λ (s : Slab GraphNode). s.slots) c.reserve.ensures.rest_kept in
    let key : c.insert_reserved.result ≡ c.vacant_key-key.result = c.insert_reserved.ensures.key ∙ sym c.vacant_key-key.ensures.value in
    let adds : AddsNode c.self.inside.nodes.slots c.insert_reserved.new.self.slots c.vacant_key-key.result (new_node (c.self.inside.made + 1)) = record {
      was_free = rw slots at c.vacant_key-key.ensures.vacant;
      there = rw key at (c.insert_reserved.ensures.updates.changed ∙ ap Some c.fresh-node.ensures);
      others = λ other apart. rw slots at (c.insert_reserved.ensures.updates.others other (rw (← key) at apart));
    } in
    let named = on_ok _ _ c.if-is_err-2.ensures.negation c.add_name.ensures.ok in
    let unnamed : is_some (key_named c.self.inside.names.items c.args.t.0) ≡ false = search rules in
    rw named
    (graph-created c.self.inside.nodes.capacity c.insert_reserved.new.self.capacity c.args.t.0 c.vacant_key-key.result (c.self.inside.made + 1) _
    c.insert_reserved.new.self.slots c.self.invariant adds (is-none (key_named c.self.inside.names.items c.args.t.0) unnamed) c.if-t-eq0.false
    (rw slots at c.insert_reserved.ensures.len) (omega (arith, c.reserve.ensures.capacity, c.insert_reserved.ensures.capacity))
    (rw key at c.insert_reserved.ensures.key_in_range))

pub returns-clause-created : goal.returns-clause-created
returns-clause-created c =
    let slots : c.reserve.new.self.slots ≡ c.self.inside.nodes.slots = ap (λ (s : Slab GraphNode). s.slots) c.reserve.ensures.rest_kept in
    let key : c.insert_reserved.result ≡ c.vacant_key-key.result = c.insert_reserved.ensures.key ∙ sym c.vacant_key-key.ensures.value in
    rw (← c.self.view_is) (record {
      key = c.vacant_key-key.result;
      was_free = rw slots at c.vacant_key-key.ensures.vacant;
      there = rw key at (c.insert_reserved.ensures.updates.changed ∙ ap Some c.fresh-node.ensures);
      others = λ other apart. rw slots at (c.insert_reserved.ensures.updates.others other (rw (← key) at apart));
      names = on_ok _ _ c.if-is_err-2.ensures.negation c.add_name.ensures.ok;
      root = refl;
      made = refl;
    })
