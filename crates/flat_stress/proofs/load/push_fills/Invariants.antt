use Rattle.std.proofs.Common.{◌≡◌, ◌*◌, ◌++◌, ◌∷◌}
use Rattle.std.specs.List.{flat_map}
use Rattle.flat_stress.specs.Words.{between}
use Rattle.flat_page.specs.Words.{text_of}
use Rattle.flat_stress.specs.Load.{node, move, fill}
use Rattle.flat_stress.proofs.load.push_fills.Given as goal

abbrev pub invariant-loop-j : goal.invariant-loop-j
invariant-loop-j l = l.page ≡ l.initial.page ++ text_of (flat_map (λ j. node l.i j ++ move l.i j (3 * j) (2 * j) ∷ fill l.i j) (between 2 l.j))
