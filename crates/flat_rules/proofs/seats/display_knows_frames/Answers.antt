use Rattle.flat_rules.proofs.SeatLemmas.{display-knows-frames, begin-stays}
use Rattle.flat_rules.proofs.seats.display_knows_frames.Goals as goal

pub returns-clause-frames : goal.returns-clause-frames
returns-clause-frames c = display-knows-frames

pub returns-clause-begin : goal.returns-clause-begin
returns-clause-begin c = begin-stays
