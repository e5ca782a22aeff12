use Rattle.flat_render.specs.Bands.{AreEmpty}
use Rattle.flat_render.proofs.sorting.empties.Given as goal

abbrev pub invariant-loop : goal.invariant-loop
invariant-loop l = AreEmpty l.counter l.lists.items
