use Rattle.std.proofs.Common.{take, map}
use Rattle.flat_page.specs.Pages.{WritesLines}
use Rattle.flat_lines.specs.FrameLines.{lost_line, lost_at}
use Rattle.flat_lines.proofs.frame_words.push_losses.Given as goal

abbrev pub invariant-loop-one : goal.invariant-loop-one
invariant-loop-one l = WritesLines (map lost_line (lost_at l.number (take l.one-index l.lost))) l.fn.page l.page
