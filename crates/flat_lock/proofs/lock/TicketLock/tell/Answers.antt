use Rattle.std.proofs.Common.{sym, subst}
use Rattle.flat_lock.specs.History.{StartsWith}
use Rattle.flat_lock.proofs.lock.TicketLock.tell.Goals as goal

pub returns-clause-longer : goal.returns-clause-longer
returns-clause-longer g c = let told = c.tell.ensures.told in
    subst (λ m. StartsWith m.0.seen c.args.to.now.seen) (sym told.2) (subst (λ z. StartsWith told.0 z.seen) c.to.view_is told.4.longer)
