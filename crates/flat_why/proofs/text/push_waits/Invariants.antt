use Rattle.std.proofs.Common.{take, map}
use Rattle.flat_page.specs.Pages.{WritesLines}
use Rattle.flat_why.specs.Text.{wait_line}
use Rattle.flat_why.proofs.text.push_waits.Given as goal

abbrev pub invariant-loop-waiting : goal.invariant-loop-waiting
invariant-loop-waiting l = WritesLines (map (wait_line l.script l.frame.0) (take l.waiting-index l.waits)) l.fn.page l.page
