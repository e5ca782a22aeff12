use Rattle.std.proofs.Common.{arith}
use Rattle.flat_tile.proofs.lemmas.Items.{item-step, items-all}
use Rattle.flat_tile.proofs.tile.paint_all.Goals as goal

pub loop-n-preserved : goal.loop-n-preserved
loop-n-preserved c =
    item-step c.args.items.now c.loop-n.n _ c.args.tile c.args.window c.args.bytes.now c.loop-n.bytes c.paint_item.new.bytes
    c.loop-n-test.true (omega arith) c.loop-n.invariant c.paint_item.ensures

pub returns : goal.returns
returns c = items-all c.args.items.now c.loop-n.n c.args.tile c.args.window c.args.bytes.now c.loop-n.bytes c.loop-n-test.false c.loop-n.invariant
