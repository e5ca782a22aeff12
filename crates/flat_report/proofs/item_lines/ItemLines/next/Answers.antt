use Rattle.std.proofs.Common.{arith}
use Rattle.flat_report.specs.declared.item_lines.ItemChunk.{ItemChunk}
use Rattle.flat_report.proofs.ItemLines.{stretch-more}
use Rattle.flat_report.proofs.item_lines.ItemLines.next.Goals as goal

pub loop-start-preserved : goal.loop-start-preserved
loop-start-preserved c = λ lines.
    let next : ItemChunk = record { start = c.loop-start.start; end = c.stretch_end-end.result; lines = c.in_ok-lines.lines } in
    stretch-more c.args.script.now c.args.items.now c.loop-start.stretches.items c.push.new.self.items next (omega (arith, c.stretch_end-end.ensures.some))
    (c.loop-start.invariant lines) (c.in_ok-lines.ensures lines) c.in_ok-push.ensures.items
