use Rattle.std.proofs.Common.{take}
use Rattle.std.specs.List.{flat_map}
use Rattle.flat_print.specs.Print.{region_words}
use Rattle.flat_page.specs.Pages.{Writes}
use Rattle.flat_print.proofs.print_words.push_regions.Given as goal

abbrev pub invariant-loop-region : goal.invariant-loop-region
invariant-loop-region l = Writes (flat_map region_words (take l.region-index l.regions)) l.fn.page l.page
