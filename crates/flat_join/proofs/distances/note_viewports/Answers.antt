use Rattle.std.proofs.Common.{ℕ, List, ap, get_or}
use Rattle.flat_snap.specs.Flat.{flat_nodes, lent}
use Rattle.flat_join.proofs.Finding.{notes-all, notes-first, notes-next, viewport-within}
use Rattle.flat_join.proofs.distances.note_viewports.Goals as goal

pub loop-i-init : goal.loop-i-init
loop-i-init c = notes-first c.args.shown.now c.args.distance c.args.distances.now (flat_nodes c.args.state.now)

pub node-requires : goal.node-requires
node-requires c = rw c.viewport_nodes-places.ensures (viewport-within (flat_nodes c.args.state.now) c.loop-i.i-index 0
    (rw c.viewport_nodes-places.ensures at c.loop-i-test.true))

pub loop-i-preserved : goal.loop-i-preserved
loop-i-preserved c =
    let places = c.viewport_nodes-places.result.now in
    let i = c.loop-i.i-index in
    notes-next c.args.shown.now c.args.distance i (get_or places i 0) c.args.distances.now c.loop-i.distances c.note_linked.new.distances
    (flat_nodes c.args.state.now) (lent c.node.result)
    (rw c.viewport_nodes-places.ensures at c.loop-i-test.true) (ap (λ (xs : List ℕ). get_or xs i 0) c.viewport_nodes-places.ensures) c.node.ensures
    c.loop-i.invariant c.note_linked.ensures

pub returns : goal.returns
returns c =
    notes-all c.args.shown.now c.args.distance c.loop-i.i-index c.args.distances.now c.loop-i.distances (flat_nodes c.args.state.now)
    (rw c.viewport_nodes-places.ensures at c.loop-i-test.false) c.loop-i.invariant
