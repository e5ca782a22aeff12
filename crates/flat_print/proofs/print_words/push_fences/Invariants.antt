use Rattle.std.proofs.Common.{take, map}
use Rattle.flat_print.specs.Print.{fence_word}
use Rattle.flat_page.specs.Pages.{Writes}
use Rattle.flat_print.proofs.print_words.push_fences.Given as goal

abbrev pub invariant-loop-fence : goal.invariant-loop-fence
invariant-loop-fence l = Writes (map (fence_word l.script) (take l.fence-index l.fences)) l.fn.page l.page
