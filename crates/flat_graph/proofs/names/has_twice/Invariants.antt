use Rattle.std.proofs.Common.{◌≡◌, drop}
use Rattle.flat_graph.proofs.Twice.{are_twice}
use Rattle.flat_graph.proofs.names.has_twice.Given as goal

abbrev pub invariant-loop-place : goal.invariant-loop-place
invariant-loop-place l = are_twice (drop l.place l.ids) ≡ are_twice l.ids
