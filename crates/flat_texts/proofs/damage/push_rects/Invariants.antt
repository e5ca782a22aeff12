use Rattle.std.proofs.Common.{take, map}
use Rattle.flat_page.specs.Pages.{WritesLines}
use Rattle.flat_texts.specs.Damages.{rect_line}
use Rattle.flat_texts.proofs.damage.push_rects.Given as goal

abbrev pub invariant-loop-r : goal.invariant-loop-r
invariant-loop-r l = WritesLines (map rect_line (take l.r-index l.rects)) l.fn.page l.page
