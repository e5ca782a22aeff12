use Rattle.std.proofs.Common.{rules}
use Rattle.flat_lock.proofs.Kept.{draws}
use Rattle.flat_lock.proofs.steps.draw_ticket.Goals as goal

pub compare_exchange-requires : goal.compare_exchange-requires
compare_exchange-requires g c = (search rules, search rules, draws _ _ _ _ _ _ _ _ (search rules) c.requires.resting.0)
