use Rattle.std.proofs.Common.{◌≡◌, ◌++◌, ◌∷◌, [], map, codes}
use Rattle.flat_stress.specs.Words.{between, session, pair}
use Rattle.flat_page.specs.Words.{text_of}
use Rattle.flat_stress.proofs.load.push_pairs.Given as goal

abbrev pub invariant-loop-i : goal.invariant-loop-i
invariant-loop-i l = l.page ≡ l.initial.page ++ text_of (map (λ i. codes "pair" ∷ pair i ∷ session 1 ∷ session i ∷ []) (between 2 l.i))
