use Rattle.std.proofs.Common.{sym, arith}
use Rattle.flat_judge.proofs.LineCuts.{reached-on}
use Rattle.flat_judge.proofs.cutting.report_place.Goals as goal

pub loop-preserved : goal.loop-preserved
loop-preserved c =
    let shorter = c.in-Some.ensures.shorter in
    let left = c.loop.invariant.1 in (
      reached-on c.args.text.now c.loop.rest.now c.in-Some.first.now c.in-Some.later.now c.loop.invariant.0 (omega (arith, shorter)) c.in-Some.ensures.first
          c.in-Some.ensures.rest (sym c.if-is_title.ensures),
      omega (arith, shorter, left),
    )
