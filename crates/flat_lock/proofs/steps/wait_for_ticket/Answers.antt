use Rattle.std.proofs.Common.{sym, subst, ◌∙◌}
use Rattle.flat_lock.specs.Steps.{HasEntered, IsWaiting}
use Rattle.flat_lock.proofs.steps.wait_for_ticket.Goals as goal

pub read_serving-requires-clause-own : goal.read_serving-requires-clause-own
read_serving-requires-clause-own g c = c.loop.invariant.0.0 ∙ c.requires.own

pub read_serving-requires-clause-waiting : goal.read_serving-requires-clause-waiting
read_serving-requires-clause-waiting g c = subst (IsWaiting c.args.ticket) (sym c.loop.invariant.1) c.requires.waiting

pub returns-then-read_serving-ticket-clause-same : goal.returns-then-read_serving-ticket-clause-same
returns-then-read_serving-ticket-clause-same g c = (c.read_serving.ensures.same.0 ∙ c.loop.invariant.0.0, c.read_serving.ensures.same.1 ∙ c.loop.invariant.0.1)

pub returns-then-read_serving-ticket-clause-served : goal.returns-then-read_serving-ticket-clause-served
returns-then-read_serving-ticket-clause-served g c =
    subst (λ m. HasEntered g.T.HasHistory.history g.T.HasHistory.actor g.T.HasHistory.fixed m c.read_serving.new.seat.me) c.loop.invariant.1
    (c.read_serving.ensures.served c.if-read_serving-ticket.true)

pub loop-preserved : goal.loop-preserved
loop-preserved g c = (
  (c.read_serving.ensures.same.0 ∙ c.loop.invariant.0.0, c.read_serving.ensures.same.1 ∙ c.loop.invariant.0.1),
  c.read_serving.ensures.waiting c.if-read_serving-ticket.false ∙ c.loop.invariant.1,
)
