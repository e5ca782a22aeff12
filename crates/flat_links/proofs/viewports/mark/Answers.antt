use Rattle.std.proofs.Common.{ℕ, Some, None, ap, slice_index_or}
use Rattle.std.specs.Prelude.{Option}
use Rattle.flat_links.specs.declared.tokens.OutToken.{OutToken}
use Rattle.flat_links.specs.Viewports.{marked_by}
use Rattle.flat_links.proofs.Marks.{mapped-next}
use Rattle.flat_links.proofs.viewports.mark.Goals as goal

pub loop-one-preserved : goal.loop-one-preserved
loop-one-preserved c =
    let d : OutToken = record { pair = record { 0 = 0 }; released = None } in
    mapped-next (marked_by (Some c.args.pair) c.args.presents) c.args.out.now c.loop-one.out c.loop-one.one-index d _ c.loop-one-test.true c.loop-one.invariant
    (ap (λ (stamp : Option ℕ). let o : OutToken = record { pair = (slice_index_or c.loop-one.out c.loop-one.one-index d).pair; released = stamp } in o)
    c.stamp_then-one.ensures)
