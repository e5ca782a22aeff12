use Rattle.std.proofs.Common.{take, map}
use Rattle.flat_print.specs.Print.{Feeds, name_words}
use Rattle.flat_print.proofs.printer.push_names.Given as goal

abbrev pub invariant-loop-name : goal.invariant-loop-name
invariant-loop-name l = Feeds (map (name_words l.keyword) (take l.name-index l.names)) l.fn.page l.page
