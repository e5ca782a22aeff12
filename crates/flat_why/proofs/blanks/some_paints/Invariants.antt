use Rattle.std.proofs.Common.{◌≡◌, false, take}
use Rattle.std.specs.List.{list_any}
use Rattle.flat_snap.specs.Flat.{flat_nodes}
use Rattle.flat_why.specs.Blanks.{paints}
use Rattle.flat_why.proofs.blanks.some_paints.Given as goal

abbrev pub invariant-loop-i : goal.invariant-loop-i
invariant-loop-i l = list_any (λ n. paints n.content) (take l.i (flat_nodes l.state)) ≡ false
