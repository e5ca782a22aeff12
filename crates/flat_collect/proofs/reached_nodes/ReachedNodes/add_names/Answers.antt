use Rattle.std.proofs.Common.{◌<◌, length, slice_index_or, arith}
use Rattle.flat_graph.specs.declared.names.NamedNode.{NamedNode}
use Rattle.flat_collect.proofs.Marks.{adds-all-names, adds-next-name, adds-none, name-there}
use Rattle.flat_collect.proofs.reached_nodes.ReachedNodes.add_names.Goals as goal

pub add-requires-clause-within : goal.add-requires-clause-within
add-requires-clause-within c =
    let none : NamedNode = record { id = 0; key = 0 } in
    let low : (slice_index_or c.args.names.now c.loop-name.name-index none).key < length c.args.self.now.marks.items =
    c.requires.within _ (name-there c.args.names.now c.loop-name.name-index none c.loop-name-test.true) in
    omega (arith, low, c.loop-name.invariant.places)

pub loop-name-preserved : goal.loop-name-preserved
loop-name-preserved c =
    adds-next-name c.args.names.now c.loop-name.name-index (record { id = 0; key = 0 }) c.args.self.now c.loop-name.self c.add.new.self c.loop-name-test.true
    c.loop-name.invariant c.in_ok-add.ensures

pub loop-name-init : goal.loop-name-init
loop-name-init c = adds-none c.args.self.now c.requires.listed

pub returns : goal.returns
returns c = adds-all-names c.args.names.now c.loop-name.name-index c.args.self.now c.loop-name.self c.loop-name-test.false c.loop-name.invariant
