use Rattle.flat_lock.proofs.AtHome.{in_order_taken}
use Rattle.flat_lock.proofs.seats.LockSeats.into_first.Goals as goal

pub invariant_of-self : goal.invariant_of-self
invariant_of-self g c = in_order_taken _ _ _ _ c.self.invariant c.take.ensures.after
