use Rattle.std.proofs.Common.{take}
use Rattle.std.specs.List.{flat_map}
use Rattle.flat_page.specs.Pages.{WritesLines}
use Rattle.flat_texts.specs.Damages.{damaged_lines}
use Rattle.flat_texts.proofs.damage.push_all.Given as goal

abbrev pub invariant-loop-one : goal.invariant-loop-one
invariant-loop-one l = WritesLines (flat_map damaged_lines (take l.one-index l.damaged)) l.fn.page l.page
