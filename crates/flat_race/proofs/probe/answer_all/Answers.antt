use Rattle.std.proofs.Common.{refl, arith}
use Rattle.flat_race.proofs.ProbeLines.{probe-ends, probe-starts}
use Rattle.flat_race.proofs.probe.answer_all.Goals as goal

pub loop-place-init : goal.loop-place-init
loop-place-init g c = record {
  home = refl;
  stands = probe-starts c.args.asking.now.script.now c.args.asking.now.probe c.args.probe.now c.args.answers.now c.requires.none;
}

pub returns-clause-answered : goal.returns-clause-answered
returns-clause-answered g c = probe-ends c.args.asking.now.script.now c.args.asking.now.probe c.loop-place.place c.loop-place.probe c.loop-place.answers
    (omega (arith, c.loop-place-test.false)) c.loop-place.invariant.stands
