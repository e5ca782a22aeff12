use Rattle.std.proofs.Common.{take}
use Rattle.flat_print.specs.Print.{numbers}
use Rattle.flat_page.specs.Pages.{Writes}
use Rattle.flat_print.proofs.print_words.push_numbers.Given as goal

abbrev pub invariant-loop-value : goal.invariant-loop-value
invariant-loop-value l = Writes (numbers (take l.value-index l.values)) l.fn.page l.page
