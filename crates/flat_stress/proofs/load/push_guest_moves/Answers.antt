use Rattle.std.proofs.Common.{◌%◌, ◌∷◌, [], arith}
use Rattle.flat_stress.specs.Load.{move, present}
use Rattle.flat_stress.proofs.Writing.{two, number_more, numbers_end}
use Rattle.flat_stress.proofs.load.push_guest_moves.Goals as goal

pub loop-i-preserved : goal.loop-i-preserved
loop-i-preserved c = number_more (λ i. move i 2 (c.args.k % 90) 0 ∷ present i c.args.k ∷ []) _ _ _ 2 c.loop-i.i c.loop-i.auto.i c.loop-i.invariant
    (two (move c.loop-i.i 2 (c.args.k % 90) 0 ∷ []) (present c.loop-i.i c.args.k ∷ []) _ _ _ c.in_ok-push_move.ensures c.in_ok-push_present.ensures)

pub returns : goal.returns
returns c = numbers_end (λ i. move i 2 (c.args.k % 90) 0 ∷ present i c.args.k ∷ []) _ _ 2 c.loop-i.i 9
    (omega (arith, c.loop-i-test.false, c.loop-i.auto.i-end (omega arith))) c.loop-i.invariant
