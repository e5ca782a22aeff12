use Rattle.std.proofs.Common.{take}
use Rattle.flat_render.specs.Bands.{AreParts}
use Rattle.flat_render.proofs.sorting.sorted.Given as goal

abbrev pub invariant-loop-k : goal.invariant-loop-k
invariant-loop-k l = AreParts l.grid l.row l.items (take l.k l.places) l.lists.items
