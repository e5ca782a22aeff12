use Rattle.flat_snap.specs.Flat.{flat_nodes}
use Rattle.flat_join.specs.Distances.{NotesViews}
use Rattle.flat_join.proofs.Finding.{leads_before}
use Rattle.flat_join.proofs.distances.note_viewports.Given as goal

abbrev pub invariant-loop-i : goal.invariant-loop-i
invariant-loop-i l = NotesViews l.shown (leads_before (flat_nodes l.state) l.i-index) l.distance l.fn.distances l.distances
