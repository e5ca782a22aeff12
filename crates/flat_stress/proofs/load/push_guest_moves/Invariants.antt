use Rattle.std.proofs.Common.{◌≡◌, ◌%◌, ◌++◌, ◌∷◌, []}
use Rattle.std.specs.List.{flat_map}
use Rattle.flat_stress.specs.Words.{between}
use Rattle.flat_page.specs.Words.{text_of}
use Rattle.flat_stress.specs.Load.{move, present}
use Rattle.flat_stress.proofs.load.push_guest_moves.Given as goal

abbrev pub invariant-loop-i : goal.invariant-loop-i
invariant-loop-i l = l.page ≡ l.initial.page ++ text_of (flat_map (λ i. move i 2 (l.k % 90) 0 ∷ present i l.k ∷ []) (between 2 l.i))
