use Rattle.std.proofs.Common.{take, map}
use Rattle.flat_page.specs.Pages.{WritesLines}
use Rattle.flat_lines.specs.FrameLines.{view_line}
use Rattle.flat_lines.proofs.frame_words.push_views.Given as goal

abbrev pub invariant-loop-view : goal.invariant-loop-view
invariant-loop-view l = WritesLines (map (view_line l.script) (take l.view-index l.views)) l.fn.page l.page
