use Rattle.std.proofs.Common.{◌≡◌, ◌++◌, ◌∷◌, [], map, codes}
use Rattle.flat_stress.specs.Words.{between, session}
use Rattle.flat_page.specs.Words.{text_of}
use Rattle.flat_stress.proofs.load.push_sessions.Given as goal

abbrev pub invariant-loop-i : goal.invariant-loop-i
invariant-loop-i l = l.page ≡ l.initial.page ++ text_of (map (λ i. codes "session" ∷ session i ∷ []) (between 1 l.i))
