use Rattle.std.proofs.Common.{arith}
use Rattle.flat_judge.proofs.Looking.{lines-more}
use Rattle.flat_judge.proofs.probe_guide.lines_before.Goals as goal

pub loop-probe-preserved : goal.loop-probe-preserved
loop-probe-preserved c =
    let more = lines-more c.loop-probe.probe c.args.script.now.lines in
    let was = c.loop-probe.invariant in
    let here = c.count_asked.ensures in
    let less = c.saturating_sub-before-in-loop-probe.ensures in
    omega (arith, more, was, here, less)
