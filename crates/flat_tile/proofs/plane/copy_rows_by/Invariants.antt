use Rattle.std.proofs.Common.{◌-◌, get_or}
use Rattle.flat_tile.proofs.lemmas.Rows.{IsChangedIn}
use Rattle.flat_tile.proofs.plane.copy_rows_by.Given as goal

abbrev pub invariant-loop-py : goal.invariant-loop-py
invariant-loop-py l = IsChangedIn (λ px py old. get_or l.values (px - l.cut.x0) 0) l.tile (record l.cut { y1 = l.py }) l.initial.plane l.plane
