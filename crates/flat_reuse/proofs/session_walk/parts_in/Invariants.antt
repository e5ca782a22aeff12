use Rattle.std.proofs.Common.{Some}
use Rattle.flat_snap.specs.Flat.{flat_nodes}
use Rattle.flat_topology.specs.Shown.{nodes_of}
use Rattle.flat_join.specs.Walking.{space_of}
use Rattle.flat_reuse.specs.Pieces.{pieces}
use Rattle.flat_reuse.specs.Tracing.{work, IsTracing}
use Rattle.flat_reuse.proofs.session_walk.parts_in.Given as goal

abbrev pub invariant-loop-span : goal.invariant-loop-span
invariant-loop-span l = IsTracing l.session.0 (flat_nodes l.state) (pieces l.session.0 (nodes_of (Some l.state)) (space_of l.fn.scope)) l.trace

abbrev pub decreases-loop-span : goal.decreases-loop-span
decreases-loop-span l = work (flat_nodes l.state) l.trace.left.items
