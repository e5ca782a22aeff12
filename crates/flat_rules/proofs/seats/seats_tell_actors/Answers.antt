use Rattle.flat_rules.proofs.SeatLemmas.{seats-tell-actors}
use Rattle.flat_rules.proofs.seats.seats_tell_actors.Goals as goal

pub returns : goal.returns
returns c = seats-tell-actors
