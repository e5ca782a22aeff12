use Rattle.std.proofs.Common.{ap}
use Rattle.flat_print.specs.Print.{fence_line_words}
use Rattle.flat_print.proofs.LineLemmas.{more_numbered}
use Rattle.flat_print.proofs.printer.push_fences.Goals as goal

pub loop-number-preserved : goal.loop-number-preserved
loop-number-preserved c =
    let f = fence_line_words c.args.script.now in
    more_numbered f c.args.decls.now c.loop-number.number c.index-decls-number.result (f c.loop-number.number c.index-decls-number.result)
    c.loop-number-test.true
    (ap (f c.loop-number.number) c.index-decls-number.is) c.loop-number.invariant c.in_ok-push_fence.ensures
