use Rattle.std.proofs.Common.{◌∷◌, [], codes, arith}
use Rattle.flat_stress.specs.Words.{session, pair}
use Rattle.flat_stress.proofs.Writing.{line_more, lines_end}
use Rattle.flat_stress.proofs.load.push_pairs.Goals as goal

pub loop-i-preserved : goal.loop-i-preserved
loop-i-preserved c = line_more (λ i. codes "pair" ∷ pair i ∷ session 1 ∷ session i ∷ []) _ _ _ 2 c.loop-i.i c.loop-i.auto.i c.loop-i.invariant
    c.in_ok-push_lines.ensures

pub returns : goal.returns
returns c = lines_end (λ i. codes "pair" ∷ pair i ∷ session 1 ∷ session i ∷ []) _ _ 2 c.loop-i.i 9
    (omega (arith, c.loop-i-test.false, c.loop-i.auto.i-end (omega arith))) c.loop-i.invariant
