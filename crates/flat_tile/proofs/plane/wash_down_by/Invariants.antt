use Rattle.std.proofs.Common.{◌-◌, get_or}
use Rattle.flat_tile.proofs.lemmas.Rows.{IsChangedIn}
use Rattle.flat_tile.proofs.plane.wash_down_by.Given as goal

abbrev pub invariant-loop-py : goal.invariant-loop-py
invariant-loop-py l = IsChangedIn (λ px py old. get_or l.values (py - l.cut.y0) 0) l.tile (record l.cut { y1 = l.py }) l.initial.plane l.plane
