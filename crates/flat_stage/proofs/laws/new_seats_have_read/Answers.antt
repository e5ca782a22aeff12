use Rattle.flat_stage.proofs.SeatReadings.{new_seats_have_read}
use Rattle.flat_stage.proofs.laws.new_seats_have_read.Goals as goal

pub returns : goal.returns
returns c = new_seats_have_read
