use Rattle.std.proofs.Common.{◌+◌, ◌*◌, ◌%◌, arith}
use Rattle.flat_stress.specs.Load.{move}
use Rattle.flat_stress.proofs.Writing.{line_more, lines_end}
use Rattle.flat_stress.proofs.load.push_host_moves.Goals as goal

pub loop-i-preserved : goal.loop-i-preserved
loop-i-preserved c = line_more (λ i. move 1 i ((100 * i + c.args.k) % 900) ((50 * i + c.args.k) % 900)) _ _ _ 2 c.loop-i.i c.loop-i.auto.i c.loop-i.invariant
    c.in_ok-push_move.ensures

pub returns : goal.returns
returns c = lines_end (λ i. move 1 i ((100 * i + c.args.k) % 900) ((50 * i + c.args.k) % 900)) _ _ 2 c.loop-i.i 9
    (omega (arith, c.loop-i-test.false, c.loop-i.auto.i-end (omega arith))) c.loop-i.invariant
