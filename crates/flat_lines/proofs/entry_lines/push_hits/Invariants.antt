use Rattle.std.proofs.Common.{take}
use Rattle.flat_page.specs.Pages.{Writes}
use Rattle.flat_lines.specs.EntryLines.{hit_words}
use Rattle.flat_lines.proofs.entry_lines.push_hits.Given as goal

abbrev pub invariant-loop-hit : goal.invariant-loop-hit
invariant-loop-hit l = Writes (hit_words l.script (take l.hit-index l.hits)) l.fn.page l.page
