use Rattle.std.proofs.Common.{take, map}
use Rattle.flat_print.specs.Print.{Feeds, line_words}
use Rattle.flat_print.proofs.printer.push_lines.Given as goal

abbrev pub invariant-loop-line : goal.invariant-loop-line
invariant-loop-line l = Feeds (map (line_words l.script) (take l.line-index l.lines)) l.fn.page l.page
