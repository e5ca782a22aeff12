use Rattle.std.proofs.Common.{◌≡◌}
use Rattle.flat_race.specs.Probing.{ProbeStands}
use Rattle.flat_race.proofs.probe.answer_all.Given as goal

abbrev pub invariant-loop-place : goal.invariant-loop-place
invariant-loop-place g l = record {
  home : l.probe.home ≡ l.initial.probe.home;
  stands : ProbeStands l.asking.script.now l.asking.probe l.place l.probe l.answers;
}
