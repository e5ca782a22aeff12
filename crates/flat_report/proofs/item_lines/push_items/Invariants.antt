use Rattle.std.proofs.Common.{take, map}
use Rattle.flat_page.specs.Pages.{WritesLines}
use Rattle.flat_lines.specs.FrameLines.{item_line}
use Rattle.flat_report.proofs.item_lines.push_items.Given as goal

abbrev pub invariant-loop-item : goal.invariant-loop-item
invariant-loop-item l = WritesLines (map (item_line l.script) (take l.item-index l.items)) l.fn.page l.page
