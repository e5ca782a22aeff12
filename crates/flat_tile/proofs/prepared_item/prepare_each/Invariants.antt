use Rattle.flat_tile.proofs.lemmas.PreparedLists.{AreSoFar}
use Rattle.flat_tile.proofs.prepared_item.prepare_each.Given as goal

abbrev pub invariant-loop-item : goal.invariant-loop-item
invariant-loop-item l = AreSoFar l.items l.list.items l.item-index
