use Rattle.std.proofs.Common.{◌≡◌, length, take}
use Rattle.flat_snap.specs.Flat.{flat_nodes}
use Rattle.flat_snap.proofs.same.are_same_nodes.Given as goal

abbrev pub invariant-loop-i : goal.invariant-loop-i
invariant-loop-i l = record {
  size : length (flat_nodes l.one) ≡ length (flat_nodes l.other);
  front : take l.i (flat_nodes l.one) ≡ take l.i (flat_nodes l.other);
}
