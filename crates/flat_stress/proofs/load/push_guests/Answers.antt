use Rattle.std.proofs.Common.{arith}
use Rattle.flat_stress.specs.Load.{guest}
use Rattle.flat_stress.proofs.Writing.{on_ok_of_err, number_more, numbers_end}
use Rattle.flat_stress.proofs.load.push_guests.Goals as goal

pub returns-in_err-push_guest : goal.returns-in_err-push_guest
returns-in_err-push_guest c = on_ok_of_err _ _ c.from_residual.ensures.0

pub loop-i-preserved : goal.loop-i-preserved
loop-i-preserved c = number_more (guest) _ _ _ 2 c.loop-i.i c.loop-i.auto.i c.loop-i.invariant c.in_ok-push_guest.ensures

pub returns : goal.returns
returns c = numbers_end (guest) _ _ 2 c.loop-i.i 9 (omega (arith, c.loop-i-test.false, c.loop-i.auto.i-end (omega arith))) c.loop-i.invariant
