use Rattle.std.proofs.Common.{rules, None, ◌∙◌}
use Rattle.flat_lock.proofs.AtHome.{in_order_taken, belongs_found, seats_with, none_taken}
use Rattle.flat_lock.proofs.seats.LockSeats.take.Goals as goal

pub invariant_of-self-2 : goal.invariant_of-self-2
invariant_of-self-2 g c = in_order_taken _ _ _ _ c.self.invariant c.take.ensures.after

pub returns-clause-taken : goal.returns-clause-taken
returns-clause-taken g c = rw (← c.self.view_is) (belongs_found _ c.self.inside.seats.items _ _ c.self.invariant (search rules))

pub returns-clause-seat : goal.returns-clause-seat
returns-clause-seat g c = rw (← c.self.view_is) (c.take.ensures.value ∙ c.in_ok-home.ensures.item.3.1 None)

pub returns-clause-away : goal.returns-clause-away
returns-clause-away g c = rw (← c.self.view_is) (seats_with c.self.inside.of.value c.self.inside.seats.items c.args.i _ _ c.take.ensures.after)

pub returns-clause-refused : goal.returns-clause-refused
returns-clause-refused g c =
    rw (← c.self.view_is) (none_taken c.self.inside.of.value c.self.inside.seats.items c.args.i c.in_ok-home.home.now c.take.result c.take.new.self
    c.take.ensures.value (c.in_ok-home.ensures.item.3.1 None) c.take.ensures.after)
