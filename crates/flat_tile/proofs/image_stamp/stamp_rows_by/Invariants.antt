use Rattle.flat_tile.specs.Preparing.{stamped}
use Rattle.flat_tile.proofs.lemmas.Rows.{IsChangedIn}
use Rattle.flat_tile.proofs.image_stamp.stamp_rows_by.Given as goal

abbrev pub invariant-loop-py : goal.invariant-loop-py
invariant-loop-py l = record {
  reds : IsChangedIn (λ px py old. stamped l.it 0 px py) l.tile (record l.it.cut { y1 = l.py }) l.initial.red l.red;
  greens : IsChangedIn (λ px py old. stamped l.it 1 px py) l.tile (record l.it.cut { y1 = l.py }) l.initial.green l.green;
  blues : IsChangedIn (λ px py old. stamped l.it 2 px py) l.tile (record l.it.cut { y1 = l.py }) l.initial.blue l.blue;
}
