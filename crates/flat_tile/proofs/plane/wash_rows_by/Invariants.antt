use Rattle.flat_tile.proofs.lemmas.Rows.{IsChangedIn}
use Rattle.flat_tile.proofs.plane.wash_rows_by.Given as goal

abbrev pub invariant-loop-py : goal.invariant-loop-py
invariant-loop-py l = IsChangedIn (λ px py old. l.s) l.tile (record l.cut { y1 = l.py }) l.initial.plane l.plane
