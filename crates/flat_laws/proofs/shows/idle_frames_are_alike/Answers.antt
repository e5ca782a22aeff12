use Rattle.flat_laws.proofs.Showing.{idle-show-the-same}
use Rattle.flat_laws.proofs.shows.idle_frames_are_alike.Goals as goal

pub returns : goal.returns
returns c = idle-show-the-same
