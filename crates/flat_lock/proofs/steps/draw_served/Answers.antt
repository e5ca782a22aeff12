use Rattle.std.proofs.Common.{◌≡◌, sym, subst, ◌∙◌}
use Rattle.flat_lock.specs.Steps.{IsResting, IsSameSeat, HasDrawn}
use Rattle.flat_lock.proofs.steps.draw_served.Goals.{else-peek-serving-via-then-peek-serving+else-draw_ticket, else-peek-serving-via-else-peek-serving}
use Rattle.flat_lock.proofs.steps.draw_served.Goals as goal

pub draw_ticket-requires-clause-shaped : goal.draw_ticket-requires-clause-shaped
draw_ticket-requires-clause-shaped g c = c.requires.shaped

pub draw_ticket-requires-clause-own : goal.draw_ticket-requires-clause-own
draw_ticket-requires-clause-own g c = c.loop.invariant.0.0 ∙ c.requires.own

pub draw_ticket-requires-clause-resting : goal.draw_ticket-requires-clause-resting
draw_ticket-requires-clause-resting g c = subst IsResting (sym c.loop.invariant.1) c.requires.resting

pub returns-then-draw_ticket-clause-same : goal.returns-then-draw_ticket-clause-same
returns-then-draw_ticket-clause-same g c = (c.draw_ticket.ensures.same.0 ∙ c.loop.invariant.0.0, c.draw_ticket.ensures.same.1 ∙ c.loop.invariant.0.1)

pub returns-then-draw_ticket-clause-drawn : goal.returns-then-draw_ticket-clause-drawn
returns-then-draw_ticket-clause-drawn g c = subst (λ m. HasDrawn c.peek-serving.result m c.draw_ticket.new.seat.me) c.loop.invariant.1
    (c.draw_ticket.ensures.drawn c.if-draw_ticket.true)

pub loop-preserved-then-is_completed : goal.loop-preserved-then-is_completed
loop-preserved-then-is_completed g c = elim c.else-peek-serving.branch [
  | else-peek-serving-via-then-peek-serving+else-draw_ticket w ↦
      subst (λ s. IsSameSeat c.args.seat.now s × (s.me ≡ c.args.seat.now.me)) (sym w.seat-is) (
        (w.draw_ticket.ensures.same.0 ∙ c.loop.invariant.0.0, w.draw_ticket.ensures.same.1 ∙ c.loop.invariant.0.1),
        w.draw_ticket.ensures.resting w.if-draw_ticket.false ∙ c.loop.invariant.1,
      )
  | else-peek-serving-via-else-peek-serving w ↦ subst (λ s. IsSameSeat c.args.seat.now s × (s.me ≡ c.args.seat.now.me)) (sym w.seat-is) c.loop.invariant
]

pub loop-preserved : goal.loop-preserved
loop-preserved g c = elim c.else-peek-serving.branch [
  | else-peek-serving-via-then-peek-serving+else-draw_ticket w ↦
      subst (λ s. IsSameSeat c.args.seat.now s × (s.me ≡ c.args.seat.now.me)) (sym w.seat-is) (
        (w.draw_ticket.ensures.same.0 ∙ c.loop.invariant.0.0, w.draw_ticket.ensures.same.1 ∙ c.loop.invariant.0.1),
        w.draw_ticket.ensures.resting w.if-draw_ticket.false ∙ c.loop.invariant.1,
      )
  | else-peek-serving-via-else-peek-serving w ↦ subst (λ s. IsSameSeat c.args.seat.now s × (s.me ≡ c.args.seat.now.me)) (sym w.seat-is) c.loop.invariant
]
