use Rattle.std.proofs.Common.{◌≡◌, ◌≤◌, ◌+◌, length, map, take}
use Rattle.flat_topology.specs.Connected.{connected_view}
use Rattle.flat_tree.proofs.views.Given as goal

abbrev pub invariant-loop-c : goal.invariant-loop-c
invariant-loop-c l = record {
  room : length l.connected ≤ l.c-index + l.views.room;
  items : l.views.items ≡ map (connected_view l.joined.display l.joined.nodes) (take l.c-index l.connected);
}
