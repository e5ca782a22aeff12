use Rattle.std.proofs.Common.{◌≡◌, ◌≤◌, ◌+◌, length, take}
use Rattle.flat_topology.specs.Draw.{items_of}
use Rattle.flat_compose.proofs.compose.Given as goal

abbrev pub invariant-loop-at : goal.invariant-loop-at
invariant-loop-at l = record {
  room : length l.nodes ≤ l.at-index + l.items.room;
  items : l.items.items ≡ items_of (take l.at-index l.nodes);
}
