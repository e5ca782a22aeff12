use Rattle.std.proofs.Common.{◌∷◌}
use Rattle.flat_stress.specs.Spelling.{spelling}
use Rattle.flat_stress.proofs.Writing.{all_items}
use Rattle.flat_stress.proofs.words.push_spaced.Goals as goal

pub returns : goal.returns
returns c = all_items (λ word. 32 ∷ word) spelling _ _ _ _ c.loop-word-test.false c.loop-word.invariant
