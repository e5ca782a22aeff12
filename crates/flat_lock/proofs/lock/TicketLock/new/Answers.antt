use Rattle.std.proofs.Common.{rules, sym, subst}
use Rattle.flat_lock.specs.Seats.{AreInOrder}
use Rattle.flat_lock.proofs.Closing.{opens_with, in_order_new}
use Rattle.flat_lock.proofs.lock.TicketLock.new.Goals as goal

pub new-requires : goal.new-requires
new-requires g c = opens_with _ _ _ c.args.value _ _ _ (search rules) (search rules) c.requires.empty c.requires.some_seat (search rules)

pub invariant_of-result : goal.invariant_of-result
invariant_of-result g c = subst (λ z. AreInOrder z c.in_ok-seats.seats.items) (sym c.of-of.ensures)
    (in_order_new _ c.in_ok-seats.seats.items c.in_ok-seats.ensures (search rules))
