use Rattle.flat_snap.specs.Flat.{flat_nodes, lent}
use Rattle.flat_snap.proofs.Sameness.{front-next}
use Rattle.flat_snap.proofs.same.are_same_nodes.Goals as goal

pub loop-i-preserved : goal.loop-i-preserved
loop-i-preserved c = record {
  size = c.loop-i.invariant.size;
  front = front-next (flat_nodes c.args.one.now) (flat_nodes c.args.other.now) c.loop-i.i (lent c.node.result) (lent c.node-in-loop-i.result) c.node.ensures
      c.node-in-loop-i.ensures
      (c.is_same_node.ensures.0 c.if-not-is_same_node.false) c.loop-i.invariant.front;
}
