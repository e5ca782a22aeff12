use Rattle.std.proofs.Common.{arith}
use Rattle.flat_links.proofs.Backs.{back-few}
use Rattle.flat_links.proofs.viewports.post_back.Goals as goal

pub post-requires : goal.post-requires
post-requires c =
    let inv = c.loop-one.invariant in
    omega (arith, back-few c.args.taken c.loop-one.one-index c.args.out.now, inv.count, inv.post_room, c.requires.room, c.loop-one-test.true)

pub overflow_add-count : goal.overflow_add-count
overflow_add-count c =
    let inv = c.loop-one.invariant in
    omega (arith, back-few c.args.taken c.loop-one.one-index c.args.out.now, inv.count, c.loop-one-test.true)
