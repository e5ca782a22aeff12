use Rattle.std.proofs.Common.{◌+◌, ◌≤◌}
use Rattle.flat_snap.specs.Flat.{flat_nodes}
use Rattle.flat_reuse.specs.Tracing.{work, span_work, StepsOn}
use Rattle.flat_reuse.proofs.session_walk.SessionWalk.take.Given as goal

abbrev pub invariant-loop-next : goal.invariant-loop-next
invariant-loop-next l = record {
  steps : StepsOn l.session.0 (flat_nodes l.state) l.initial.self l.fn.span l.self l.next;
  less : work (flat_nodes l.state) l.self.left.items + span_work (flat_nodes l.state) l.next
      ≤ work (flat_nodes l.state) l.initial.self.left.items + span_work (flat_nodes l.state) l.fn.span;
}

abbrev pub decreases-loop-next : goal.decreases-loop-next
decreases-loop-next l = work (flat_nodes l.state) l.self.left.items + span_work (flat_nodes l.state) l.next
