use Rattle.std.proofs.Common.{◌<◌, length, slice_index_or, arith}
use Rattle.flat_collect.proofs.Marks.{adds-all, adds-next, adds-none, item-there}
use Rattle.flat_collect.proofs.reached_nodes.ReachedNodes.add_all.Goals as goal

pub add-requires-clause-within : goal.add-requires-clause-within
add-requires-clause-within c =
    let low : slice_index_or c.args.keys.now c.loop-key.key-index 0 < length c.args.self.now.marks.items =
    c.requires.within _ (item-there c.args.keys.now c.loop-key.key-index c.loop-key-test.true) in
    omega (arith, low, c.loop-key.invariant.places)

pub loop-key-preserved : goal.loop-key-preserved
loop-key-preserved c = adds-next c.args.keys.now c.loop-key.key-index c.args.self.now c.loop-key.self c.add.new.self c.loop-key-test.true c.loop-key.invariant
    c.in_ok-add.ensures

pub loop-key-init : goal.loop-key-init
loop-key-init c = adds-none c.args.self.now c.requires.listed

pub returns : goal.returns
returns c = adds-all c.args.keys.now c.loop-key.key-index c.args.self.now c.loop-key.self c.loop-key-test.false c.loop-key.invariant
