use Rattle.std.proofs.Common.{◌≡◌}
use Rattle.flat_scene.specs.Setups.{at_ratio}
use Rattle.flat_topology.specs.Hits.{hit_list}
use Rattle.flat_play.specs.Last.{StaysLast}
use Rattle.flat_race.specs.Settling.{settled}
use Rattle.flat_race.proofs.Settled.{first-mapped}
use Rattle.flat_race.proofs.settling.settle.Given as goal

abbrev pub invariant-loop-place : goal.invariant-loop-place
invariant-loop-place l = record {
  answers : l.answers ≡ first-mapped (settled l.initial.last.frame.0 (hit_list (at_ratio l.initial.last.ratio l.setup) l.initial.last.reuse)) l.place
      l.initial.answers;
  stays : StaysLast l.setup l.initial.last l.last;
}
