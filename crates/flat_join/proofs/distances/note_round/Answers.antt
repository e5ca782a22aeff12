use Rattle.std.proofs.Common.{arith}
use Rattle.flat_join.proofs.Finding.{found-all}
use Rattle.flat_join.proofs.distances.note_round.Goals as goal

pub returns : goal.returns
returns c =
    found-all c.args.setup.now c.args.shown.now c.requires.fit c.args.distance c.loop-i.i c.loop-i.distances c.loop-i.invariant
    (omega (arith, c.loop-i-test.false, c.loop-i.auto.i-end, c.requires.made))
