use Rattle.std.proofs.Common.{◌*◌, ◌++◌, ◌∷◌, [], arith}
use Rattle.flat_stress.specs.Load.{node, move, fill}
use Rattle.flat_stress.proofs.Writing.{on_ok_of_err, two, number_more, numbers_end}
use Rattle.flat_stress.proofs.load.push_fills.Goals as goal

pub loop-j-preserved : goal.loop-j-preserved
loop-j-preserved c =
    let i = c.args.i in
    let j = c.loop-j.j in
    let moved = move i j (3 * j) (2 * j) in
    let more = two (node i j) (moved ∷ fill i j) _ _ _ c.in_ok-push_node.ensures
    (two (moved ∷ []) (fill i j) _ _ _ c.in_ok-push_move.ensures c.in_ok-push_fill.ensures) in
    number_more (λ j. node i j ++ move i j (3 * j) (2 * j) ∷ fill i j) _ _ _ 2 j c.loop-j.auto.j c.loop-j.invariant more

pub returns-in_err-push_node : goal.returns-in_err-push_node
returns-in_err-push_node c = on_ok_of_err _ _ c.from_residual.ensures.0

pub returns-in_err-push_move : goal.returns-in_err-push_move
returns-in_err-push_move c = on_ok_of_err _ _ c.from_residual-in_err-push_move.ensures.0

pub returns-in_err-push_fill : goal.returns-in_err-push_fill
returns-in_err-push_fill c = on_ok_of_err _ _ c.from_residual-in_err-push_fill.ensures.0

pub returns : goal.returns
returns c = numbers_end (λ j. node c.args.i j ++ move c.args.i j (3 * j) (2 * j) ∷ fill c.args.i j) _ _ 2 c.loop-j.j 34
    (omega (arith, c.loop-j-test.false, c.loop-j.auto.j-end (omega arith))) c.loop-j.invariant
