use Rattle.flat_rules.proofs.SeatLemmas.{sessions-know-themselves}
use Rattle.flat_rules.proofs.seats.sessions_know_themselves.Goals as goal

pub returns : goal.returns
returns c = sessions-know-themselves
