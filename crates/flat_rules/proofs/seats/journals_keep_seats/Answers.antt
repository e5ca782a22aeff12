use Rattle.flat_rules.proofs.SeatLemmas.{journals-keep-seats, begin-is-seen}
use Rattle.flat_rules.proofs.seats.journals_keep_seats.Goals as goal

pub returns-clause-seats : goal.returns-clause-seats
returns-clause-seats c = journals-keep-seats

pub returns-clause-begin : goal.returns-clause-begin
returns-clause-begin c = begin-is-seen
