use Rattle.std.proofs.Common.{◌<◌, ◌≤◌, ◌∙◌, refl, length, arith}
use Rattle.std.proofs.lemmas.List.{length-set}
use Rattle.flat_links.proofs.UsageSteps.{settled-all, settled-more, settled-none}
use Rattle.flat_links.proofs.usage.settle_all.Goals as goal

pub loop-place-init : goal.loop-place-init
loop-place-init c = record { count = refl; each = settled-none c.args.pairs.now.items }

pub loop-place-preserved : goal.loop-place-preserved
loop-place-preserved c =
    let inv = c.loop-place.invariant in
    let below : c.loop-place.place < length c.loop-place.pairs.items =
    omega (arith, inv.count, c.loop-place-test.true, c.loop-place.auto.place-end, c.len-place-end.ensures) in
    record {
      count = length-set c.loop-place.pairs.items c.loop-place.place _ ∙ inv.count;
      each = settled-more c.args.pairs.now.items c.loop-place.pairs.items c.loop-place.place c.index_mut-state.result.now inv.count below
          c.index_mut-state.ensures.value inv.each;
    }

pub returns : goal.returns
returns c =
    let inv = c.loop-place.invariant in
    let done : length c.args.pairs.now.items ≤ c.loop-place.place =
    omega (arith, c.loop-place.auto.place-end, c.loop-place-test.false, c.len-place-end.ensures) in
    settled-all c.args.pairs.now.items c.loop-place.pairs.items c.loop-place.place inv.count done inv.each
