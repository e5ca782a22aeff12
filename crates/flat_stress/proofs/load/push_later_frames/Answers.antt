use Rattle.std.proofs.Common.{◌+◌, arith}
use Rattle.flat_stress.specs.Load.{later}
use Rattle.flat_stress.proofs.Writing.{number_more, numbers_end}
use Rattle.flat_stress.proofs.load.push_later_frames.Goals as goal

pub loop-k-preserved : goal.loop-k-preserved
loop-k-preserved c = number_more (later) _ _ _ 2 c.loop-k.k c.loop-k.auto.k c.loop-k.invariant c.in_ok-push_later.ensures

pub returns : goal.returns
returns c = numbers_end (later) _ _ 2 c.loop-k.k (c.args.n + 1) (omega (arith, c.loop-k-test.false, c.loop-k.auto.k-end (omega arith))) c.loop-k.invariant
