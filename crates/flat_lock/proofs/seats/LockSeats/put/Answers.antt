use Rattle.std.proofs.Common.{ap, sym, ◌∙◌}
use Rattle.flat_lock.proofs.AtHome.{in_order_put}
use Rattle.flat_lock.proofs.seats.LockSeats.put.Goals as goal

pub invariant_of-self : goal.invariant_of-self
invariant_of-self g c = in_order_put _ _ _ c.args.seat c.self.invariant (c.requires.own ∙ sym (ap (λ z. z.lock) c.self.view_is)) c.requires.resting
    c.actor-place.ensures.number
