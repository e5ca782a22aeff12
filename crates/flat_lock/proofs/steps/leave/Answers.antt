use Rattle.std.proofs.Common.{rules}
use Rattle.flat_lock.proofs.Kept.{gives_back, given_back}
use Rattle.flat_lock.proofs.steps.leave.Goals as goal

pub fetch_add-requires : goal.fetch_add-requires
fetch_add-requires g c = (
  search rules,
  search rules,
  gives_back _ _ _ _ _ c.args.seat.now.me _ c.args.value c.requires.turn c.exchange-left.ensures.3 c.requires.longer c.requires.fixed,
)

pub returns-clause-left : goal.returns-clause-left
returns-clause-left g c = given_back g.T.HasHistory.history g.T.HasHistory.actor g.T.HasHistory.fixed _ _ _ c.args.value c.requires.turn
    c.exchange-left.ensures.3
    c.fetch_add.ensures.2
