use Rattle.flat_laws.proofs.Showing.{taken-stays-shown}
use Rattle.flat_laws.proofs.shows.presents_stay_shown.Goals as goal

pub returns : goal.returns
returns c = taken-stays-shown
