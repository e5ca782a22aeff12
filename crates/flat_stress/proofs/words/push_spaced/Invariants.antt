use Rattle.std.proofs.Common.{◌≡◌, ◌++◌, ◌∷◌, take}
use Rattle.std.specs.List.{flat_map}
use Rattle.flat_stress.specs.Spelling.{spelling}
use Rattle.flat_stress.proofs.words.push_spaced.Given as goal

abbrev pub invariant-loop-word : goal.invariant-loop-word
invariant-loop-word l = l.page ≡ l.initial.page ++ flat_map (λ word. 32 ∷ spelling word) (take l.word-index l.words)
