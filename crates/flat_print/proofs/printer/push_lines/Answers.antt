use Rattle.std.proofs.Common.{ap}
use Rattle.flat_print.specs.Print.{line_words}
use Rattle.flat_print.proofs.LineLemmas.{more_lines}
use Rattle.flat_print.proofs.printer.push_lines.Goals as goal

pub loop-line-preserved : goal.loop-line-preserved
loop-line-preserved c =
    let g = line_words c.args.script.now in
    more_lines g c.args.lines.now c.loop-line.line-index c.line-item.result (g c.line-item.result) c.loop-line-test.true (ap g c.line-item.is)
    c.loop-line.invariant c.in_ok-push_line.ensures
