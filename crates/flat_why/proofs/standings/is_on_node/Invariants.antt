use Rattle.std.proofs.Common.{◌≡◌, false, take}
use Rattle.std.specs.List.{list_any}
use Rattle.flat_snap.specs.Flat.{flat_nodes, viewport_places}
use Rattle.flat_why.proofs.ShownPairs.{contents_of, leads_at}
use Rattle.flat_why.proofs.standings.is_on_node.Given as goal

abbrev pub invariant-loop-i : goal.invariant-loop-i
invariant-loop-i l = list_any (leads_at l.p.0 (contents_of (flat_nodes l.state))) (take l.i-index (viewport_places 0 (contents_of (flat_nodes l.state))))
    ≡ false
