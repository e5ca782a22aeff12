use Rattle.std.proofs.Common.{◌≡◌, length}
use Rattle.flat_render.specs.Bands.{AreRows}
use Rattle.flat_render.proofs.sorting.sorted_rows.Given as goal

abbrev pub invariant-loop-n : goal.invariant-loop-n
invariant-loop-n l = record {
  count : length l.lists.items ≡ l.grid.down;
  rows : AreRows l.grid l.items l.lists.items l.n;
}
