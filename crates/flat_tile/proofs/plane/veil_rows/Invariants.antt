use Rattle.flat_ink.specs.Colours.{covered}
use Rattle.flat_tile.proofs.lemmas.Rows.{IsChangedIn}
use Rattle.flat_tile.proofs.plane.veil_rows.Given as goal

abbrev pub invariant-loop-py : goal.invariant-loop-py
invariant-loop-py l = IsChangedIn (λ px py old. covered l.weight l.s old) l.tile (record l.cut { y1 = l.py }) l.initial.plane l.plane
