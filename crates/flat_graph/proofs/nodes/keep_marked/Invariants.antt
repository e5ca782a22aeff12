use Rattle.std.proofs.Common.{◌≡◌, ◌+◌}
use Rattle.slab.specs.Slab.{slab_len}
use Rattle.flat_graph.proofs.Sweeping.{marked_below}
use Rattle.flat_graph.proofs.nodes.keep_marked.Given as goal

abbrev pub invariant-loop-key : goal.invariant-loop-key
invariant-loop-key l = record {
  slots : l.nodes.slots ≡ marked_below l.key l.marks l.initial.nodes.slots;
  places : l.nodes.capacity ≡ l.initial.nodes.capacity;
  counted : l.dropped + slab_len l.nodes ≡ slab_len l.initial.nodes;
}
