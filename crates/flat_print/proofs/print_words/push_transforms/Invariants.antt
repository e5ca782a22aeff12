use Rattle.std.proofs.Common.{take, map}
use Rattle.std.specs.Fmt.{decimal}
use Rattle.flat_page.specs.Pages.{Writes}
use Rattle.flat_print.proofs.print_words.push_transforms.Given as goal

abbrev pub invariant-loop-transform : goal.invariant-loop-transform
invariant-loop-transform l = Writes (map (λ t. decimal t.0) (take l.transform-index l.transforms)) l.fn.page l.page
