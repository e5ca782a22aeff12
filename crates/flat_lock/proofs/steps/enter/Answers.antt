use Rattle.std.proofs.Common.{rules}
use Rattle.flat_lock.proofs.Kept.{is_carried}
use Rattle.flat_lock.proofs.steps.enter.Goals as goal

pub exchange-requires : goal.exchange-requires
exchange-requires g c = (
  search rules,
  is_carried g.T.HasHistory.history g.T.HasHistory.actor g.T.HasHistory.fixed c.draw_served-ticket.new.seat.me c.wait_for_ticket.new.seat.me
      c.wait_for_ticket.ensures.served,
)
