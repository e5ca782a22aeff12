use Rattle.std.proofs.Common.{arith, ap, refl, ◌∙◌}
use Rattle.flat_snap.specs.Flat.{flat_nodes, lent}
use Rattle.flat_topology.specs.Place.{Space}
use Rattle.flat_reuse.proofs.Tracing.{HasStepped, next-within, inner-low, steps-after, steps-below, work-after, work-below}
use Rattle.flat_reuse.specs.declared.session_walk.SessionWalk.{SessionWalk}
use Rattle.flat_reuse.proofs.session_walk.SessionWalk.step.Goals as goal

pub node-node-requires : goal.node-node-requires
node-node-requires c = next-within (flat_nodes c.args.state.now) c.args.span c.requires.is c.requires.some

pub inner-scope-requires : goal.inner-scope-requires
inner-scope-requires c =
    let low = inner-low (flat_nodes c.args.state.now) c.args.span (lent c.node-node.result) c.requires.is c.requires.some c.requires.low c.node-node.ensures in
    omega (arith, low)

pub add_node-requires : goal.add_node-requires
add_node-requires c =
    let low = inner-low (flat_nodes c.args.state.now) c.args.span (lent c.node-node.result) c.requires.is c.requires.some c.requires.low c.node-node.ensures in
    let same = ap (λ (space : Space). space.opacity) c.inner-scope.ensures in
    omega (arith, low, same)

pub returns-then-span-node-clause-goes : goal.returns-then-span-node-clause-goes
returns-then-span-node-clause-goes c =
    let low = inner-low (flat_nodes c.args.state.now) c.args.span (lent c.node-node.result) c.requires.is c.requires.some c.requires.low c.node-node.ensures in
    let same = ap (λ (space : Space). space.opacity) c.inner-scope.ensures in
    let new : SessionWalk = record { parts = c.add_node.new.self; left = c.args.self.now.left } in
    let h : HasStepped c.args.session.0 c.args.self.now c.args.span (lent c.node-node.result) c.inner-scope.result new =
    record { parts = c.in_ok-add_node.ensures; scope_is = c.inner-scope.ensures; low = omega (arith, low, same) } in
    steps-after c.args.session.0 (flat_nodes c.args.state.now) c.args.self.now c.args.span (lent c.node-node.result) c.inner-scope.result new
    c.requires.is c.requires.some c.node-node.ensures c.requires.whole h refl (omega arith)

pub returns-then-span-node-clause-work : goal.returns-then-span-node-clause-work
returns-then-span-node-clause-work c =
    work-after (flat_nodes c.args.state.now) c.args.span (lent c.node-node.result) c.args.self.now.left.items c.args.self.now.left.items
    c.requires.is c.requires.some c.node-node.ensures refl

pub returns-clause-goes : goal.returns-clause-goes
returns-clause-goes c =
    let low = inner-low (flat_nodes c.args.state.now) c.args.span (lent c.node-node.result) c.requires.is c.requires.some c.requires.low c.node-node.ensures in
    let same = ap (λ (space : Space). space.opacity) c.inner-scope.ensures in
    let new : SessionWalk = c.push.new.self in
    let h : HasStepped c.args.session.0 c.args.self.now c.args.span (lent c.node-node.result) c.inner-scope.result new =
    record { parts = c.push.ensures.parts ∙ c.in_ok-add_node.ensures; scope_is = c.inner-scope.ensures; low = omega (arith, low, same) } in
    steps-below c.args.session.0 (flat_nodes c.args.state.now) c.args.self.now c.args.span (lent c.node-node.result) c.inner-scope.result new
    c.requires.is c.requires.some c.node-node.ensures c.requires.whole h c.in_ok-push.ensures.left

pub returns-clause-work : goal.returns-clause-work
returns-clause-work c =
    work-below (flat_nodes c.args.state.now) c.args.span (lent c.node-node.result) c.inner-scope.result c.args.self.now.left.items c.push.new.self.left.items
    c.requires.is c.requires.some c.node-node.ensures c.in_ok-push.ensures.left
