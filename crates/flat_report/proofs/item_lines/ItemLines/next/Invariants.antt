use Rattle.std.proofs.Common.{◌-◌, length}
use Rattle.flat_report.specs.ItemLines.{AreLines}
use Rattle.flat_report.proofs.ItemLines.{AreSoFar}
use Rattle.flat_report.proofs.item_lines.ItemLines.next.Given as goal

abbrev pub invariant-loop-start : goal.invariant-loop-start
invariant-loop-start l = AreLines l.script l.fn.self → AreSoFar l.script l.items l.start l.stretches.items

abbrev pub decreases-loop-start : goal.decreases-loop-start
decreases-loop-start l = length l.items - l.start
