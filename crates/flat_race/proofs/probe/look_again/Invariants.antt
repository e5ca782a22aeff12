use Rattle.std.proofs.Common.{◌≡◌}
use mathlib.Core.List.{IsPrefix}
use Rattle.flat_race.proofs.probe.look_again.Given as goal

abbrev pub invariant-loop : goal.invariant-loop
invariant-loop g l = record {
  home : l.probe.home ≡ l.initial.probe.home;
  grows : IsPrefix l.initial.probe.frames l.probe.frames;
}
