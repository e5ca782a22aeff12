use Rattle.std.proofs.Common.{refl}
use Rattle.flat_print.specs.Print.{buffers_line_words}
use Rattle.flat_print.proofs.LineLemmas.{more_numbered}
use Rattle.flat_print.proofs.printer.push_buffers.Goals as goal

pub loop-number-preserved : goal.loop-number-preserved
loop-number-preserved c = more_numbered (buffers_line_words c.args.script.now) c.args.decls.now c.loop-number.number _ _ c.loop-number-test.true refl
    c.loop-number.invariant c.in_ok-push_buffer.ensures
