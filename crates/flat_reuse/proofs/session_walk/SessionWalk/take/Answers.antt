use Rattle.std.proofs.Common.{arith}
use Rattle.flat_snap.specs.Flat.{flat_nodes}
use Rattle.flat_reuse.proofs.Tracing.{goes-empty, stays-on, steps-twice}
use Rattle.flat_reuse.proofs.session_walk.SessionWalk.take.Goals as goal

pub loop-next-init : goal.loop-next-init
loop-next-init c = record {
  steps = stays-on c.args.session.0 (flat_nodes c.args.state.now) c.args.self.now c.args.span c.requires.is c.requires.whole;
  less = omega arith;
}

pub step-requires-clause-is : goal.step-requires-clause-is
step-requires-clause-is c = c.loop-next.invariant.steps.is

pub step-requires-clause-whole : goal.step-requires-clause-whole
step-requires-clause-whole c = c.loop-next.invariant.steps.whole

pub loop-next-preserved : goal.loop-next-preserved
loop-next-preserved c = record {
  steps = steps-twice c.args.session.0 (flat_nodes c.args.state.now) c.args.self.now c.args.span c.loop-next.self c.loop-next.next c.step.new.self _
      c.loop-next.invariant.steps c.in_ok-next.ensures.goes;
  less = omega (arith, c.in_ok-next.ensures.work);
}

pub returns-clause-goes : goal.returns-clause-goes
returns-clause-goes c =
    goes-empty c.args.session.0 (flat_nodes c.args.state.now) c.args.self.now c.args.span c.loop-next.self c.loop-next.next c.loop-next.invariant.steps
    (omega arith)

pub returns-clause-work : goal.returns-clause-work
returns-clause-work c = omega arith
