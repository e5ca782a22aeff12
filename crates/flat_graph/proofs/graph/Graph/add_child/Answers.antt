use Rattle.std.proofs.Common.{sym}
use Rattle.flat_graph.specs.State.{GraphState}
use Rattle.flat_graph.proofs.Children.{pair_refused, child_added, child_refused, child_kept, child_allowed, child_fault}
use Rattle.flat_graph.proofs.graph.Graph.add_child.Goals as goal

pub returns-in_err-over-clause-fault : goal.returns-in_err-over-clause-fault
returns-in_err-over-clause-fault c = pair_refused c.args.self.now c.args.parent.0 c.args.child.0 c.from_residual.result c.in_err-over.field-0.0
    c.from_residual.ensures.1 c.in_err-over.ensures.fault

pub invariant_of-self-2 : goal.invariant_of-self-2
invariant_of-self-2 c =
    let there = sym (rw c.in-Some.is at c.get_mut.ensures.value) in
    let keys = rw (← c.self.view_is) at c.in_ok-over.ensures in
    child_kept _ c.args.parent.0 c.args.child.0 c.in_ok-over.over c.in_ok-over.under c.in-Some.node.now keys.parent keys.child there _ c.self.invariant
    keys.child_kept c.add_key.result c.add_key.new.children c.add_key.ensures.added c.add_key.ensures.kept

pub returns-clause-added : goal.returns-clause-added
returns-clause-added c =
    let there = sym (rw c.in-Some.is at c.get_mut.ensures.value) in
    let keys = rw (← c.self.view_is) at c.in_ok-over.ensures in
    rw (← c.self.view_is) (child_added _ c.args.parent.0 c.args.child.0 c.in_ok-over.over c.in_ok-over.under c.in-Some.node.now keys.parent keys.child there
    c.add_key.result c.add_key.new.children c.add_key.ensures.added)

pub returns-clause-allowed : goal.returns-clause-allowed
returns-clause-allowed c =
    let graph : GraphState = record {
      nodes = c.self.inside.nodes.slots;
      names = c.self.inside.names.items;
      root = c.self.inside.root;
      made = c.self.inside.made;
    } in
    let there = sym (rw c.in-Some.is at c.get_mut.ensures.value) in
    let keys = rw (← c.self.view_is) at c.in_ok-over.ensures in
    rw (← c.self.view_is) (child_allowed graph c.args.parent.0 c.args.child.0 c.in_ok-over.over c.in_ok-over.under c.in-Some.node.now keys.parent keys.child
    there c.add_key.result keys.allowed c.add_key.ensures.allowed)

pub returns-clause-fault : goal.returns-clause-fault
returns-clause-fault c =
    let graph : GraphState = record {
      nodes = c.self.inside.nodes.slots;
      names = c.self.inside.names.items;
      root = c.self.inside.root;
      made = c.self.inside.made;
    } in
    let there = sym (rw c.in-Some.is at c.get_mut.ensures.value) in
    let keys = rw (← c.self.view_is) at c.in_ok-over.ensures in
    rw (← c.self.view_is) (child_fault graph c.args.parent.0 c.args.child.0 c.in_ok-over.over c.in_ok-over.under c.in-Some.node.now keys.parent keys.child there
    c.add_key.result keys.allowed c.add_key.ensures.fault)

pub returns-clause-kept : goal.returns-clause-kept
returns-clause-kept c =
    let there = sym (rw c.in-Some.is at c.get_mut.ensures.value) in
    let keys = rw (← c.self.view_is) at c.in_ok-over.ensures in
    rw (← c.self.view_is) (child_refused _ c.args.parent.0 c.args.child.0 c.in_ok-over.over c.in_ok-over.under c.in-Some.node.now keys.parent keys.child there
    c.add_key.result c.add_key.new.children c.add_key.ensures.kept)
