use Rattle.flat_laws.proofs.Layouts.{layouts-of-frames}
use Rattle.flat_laws.proofs.shows.layouts_are_of_frames.Goals as goal

pub returns : goal.returns
returns c = layouts-of-frames
