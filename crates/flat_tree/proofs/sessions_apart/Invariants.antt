use Rattle.std.proofs.Common.{◌≡◌, ◌≤◌, ◌+◌}
use Rattle.flat_tree.specs.Trees.{apart_below}
use Rattle.flat_tree.proofs.sessions_apart.Given as goal

abbrev pub invariant-loop-before : goal.invariant-loop-before
invariant-loop-before l = record {
  room : 16 ≤ l.before + l.apart.room;
  items : l.apart.items ≡ apart_below l.before l.views l.with_view;
}
