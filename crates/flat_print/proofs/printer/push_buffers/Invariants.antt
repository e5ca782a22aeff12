use Rattle.std.proofs.Common.{take}
use Rattle.flat_print.specs.Print.{Feeds, numbered, buffers_line_words}
use Rattle.flat_print.proofs.printer.push_buffers.Given as goal

abbrev pub invariant-loop-number : goal.invariant-loop-number
invariant-loop-number l = Feeds (numbered (buffers_line_words l.script) 0 (take l.number l.decls)) l.fn.page l.page
