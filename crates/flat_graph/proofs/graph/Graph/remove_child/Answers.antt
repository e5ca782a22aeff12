use Rattle.std.proofs.Common.{sym, not, ◌∙◌}
use Rattle.std.specs.Prelude.{◌==◌}
use Rattle.flat_graph.specs.State.{GraphState}
use Rattle.flat_graph.proofs.Children.{pair_stays_refused, going_allowed, going_refused, child_gone, child_stays}
use Rattle.flat_graph.proofs.Soundness.{graph-changed, contains-filter}
use Rattle.flat_graph.proofs.graph.Graph.remove_child.Goals as goal

pub returns-in_err-over-clause-fault : goal.returns-in_err-over-clause-fault
returns-in_err-over-clause-fault c = pair_stays_refused c.args.self.now c.args.parent.0 c.args.child.0 c.from_residual.result c.in_err-over.field-0.0
    c.from_residual.ensures.1 c.in_err-over.ensures.fault

pub invariant_of-self-then-not-take_key : goal.invariant_of-self-then-not-take_key
invariant_of-self-then-not-take_key c =
    let there = sym (rw c.in-Some.is at c.get_mut.ensures.value) in
    graph-changed _ _ c.in_ok-over.over _ _ c.self.invariant there
    (rw (c.take_key.ensures.kept c.if-not-take_key.true) (c.self.invariant.sound.children_kept c.in_ok-over.over _ there))

pub returns-then-not-take_key-clause-fault : goal.returns-then-not-take_key-clause-fault
returns-then-not-take_key-clause-fault c =
    let graph : GraphState = record {
      nodes = c.self.inside.nodes.slots;
      names = c.self.inside.names.items;
      root = c.self.inside.root;
      made = c.self.inside.made;
    } in
    let there = sym (rw c.in-Some.is at c.get_mut.ensures.value) in
    let keys = rw (← c.self.view_is) at c.in_ok-over.ensures in
    rw (← c.self.view_is) (going_refused graph c.args.parent.0 c.args.child.0 c.in_ok-over.over c.in_ok-over.under c.in-Some.node.now keys.parent keys.child
    there keys.allowed (sym c.take_key.ensures.found ∙ c.if-not-take_key.true))

pub returns-then-not-take_key-clause-kept : goal.returns-then-not-take_key-clause-kept
returns-then-not-take_key-clause-kept c =
    let there = sym (rw c.in-Some.is at c.get_mut.ensures.value) in
    let keys = rw (← c.self.view_is) at c.in_ok-over.ensures in
    rw (← c.self.view_is) (child_stays _ c.args.parent.0 c.args.child.0 c.in_ok-over.over c.in_ok-over.under c.in-Some.node.now keys.parent keys.child there
    c.take_key.new.keys (c.take_key.ensures.kept c.if-not-take_key.true))

pub invariant_of-self-2 : goal.invariant_of-self-2
invariant_of-self-2 c =
    let there = sym (rw c.in-Some.is at c.get_mut.ensures.value) in
    graph-changed _ _ c.in_ok-over.over _ _ c.self.invariant there
    (λ child has. c.self.invariant.sound.children_kept c.in_ok-over.over _ there child
    (contains-filter (λ other. not (other == c.in_ok-over.under)) _ child (rw (c.take_key.ensures.taken c.if-not-take_key.false) at has)))

pub returns-clause-removed : goal.returns-clause-removed
returns-clause-removed c =
    let there = sym (rw c.in-Some.is at c.get_mut.ensures.value) in
    let keys = rw (← c.self.view_is) at c.in_ok-over.ensures in
    rw (← c.self.view_is) (child_gone _ c.args.parent.0 c.args.child.0 c.in_ok-over.over c.in_ok-over.under c.in-Some.node.now keys.parent keys.child there
    c.take_key.new.keys (c.take_key.ensures.taken c.if-not-take_key.false))

pub returns-clause-allowed : goal.returns-clause-allowed
returns-clause-allowed c =
    let graph : GraphState = record {
      nodes = c.self.inside.nodes.slots;
      names = c.self.inside.names.items;
      root = c.self.inside.root;
      made = c.self.inside.made;
    } in
    let there = sym (rw c.in-Some.is at c.get_mut.ensures.value) in
    let keys = rw (← c.self.view_is) at c.in_ok-over.ensures in
    rw (← c.self.view_is) (going_allowed graph c.args.parent.0 c.args.child.0 c.in_ok-over.over c.in_ok-over.under c.in-Some.node.now keys.parent keys.child
    there keys.allowed (sym c.take_key.ensures.found ∙ c.if-not-take_key.false))
