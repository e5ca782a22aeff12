use Rattle.std.proofs.Common.{◌≡◌, ◌++◌}
use Rattle.std.specs.List.{flat_map}
use Rattle.flat_stress.specs.Words.{between}
use Rattle.flat_page.specs.Words.{text_of}
use Rattle.flat_stress.specs.Load.{node, viewport}
use Rattle.flat_stress.proofs.load.push_viewports.Given as goal

abbrev pub invariant-loop-i : goal.invariant-loop-i
invariant-loop-i l = l.page ≡ l.initial.page ++ text_of (flat_map (λ i. node 1 i ++ viewport i) (between 2 l.i))
