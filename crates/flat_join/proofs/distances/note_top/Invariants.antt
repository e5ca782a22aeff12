use Rattle.std.proofs.Common.{ℕ, ◌≡◌, ◌<◌, length, None}
use Rattle.flat_join.proofs.Finding.{noted_at}
use Rattle.flat_join.proofs.distances.note_top.Given as goal

abbrev pub invariant-loop-distance : goal.invariant-loop-distance
invariant-loop-distance l = record {
  count : length l.distances ≡ length l.fn.distances;
  none : (s : ℕ) → s < l.distance-index → noted_at l.distances s ≡ None;
}
