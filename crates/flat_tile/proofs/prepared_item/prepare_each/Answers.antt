use Rattle.flat_tile.proofs.lemmas.PreparedLists.{one-more}
use Rattle.flat_tile.proofs.prepared_item.prepare_each.Goals as goal

pub loop-item-preserved : goal.loop-item-preserved
loop-item-preserved c =
    one-more c.args.items.now c.loop-item.item-index _ c.loop-item.list.items c.push.new.self.items c.prepare.result c.loop-item-test.true c.prepare.ensures
    c.in_ok-push.ensures.items c.loop-item.invariant
