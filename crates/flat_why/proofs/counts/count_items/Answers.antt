use Rattle.std.proofs.Common.{rules, ◌+◌, ◌^◌, ◌<◌, length, ap, ◌∙◌}
use Rattle.flat_why.proofs.Counting.{counted-next, counts-small, length-with_item}
use Rattle.flat_why.proofs.counts.count_items.Goals as goal

pub count_one-requires : goal.count_one-requires
count_one-requires c =
    let small : c.loop-item.item-index + 1 < 2 ^ 64 = search rules in
    counts-small c.args.items.now c.loop-item.item-index c.args.sessions c.loop-item.counts.items c.loop-item.invariant.count small c.loop-item.invariant.each

pub loop-item-preserved : goal.loop-item-preserved
loop-item-preserved c = record {
  count = ap length c.count_one.ensures ∙ length-with_item _ c.loop-item.counts.items ∙ c.loop-item.invariant.count;
  each = counted-next c.args.items.now c.loop-item.item-index c.args.sessions _ c.loop-item.counts.items c.count_one.new.counts.items c.loop-item-test.true
      c.loop-item.invariant.count c.count_one.ensures c.loop-item.invariant.each;
}
