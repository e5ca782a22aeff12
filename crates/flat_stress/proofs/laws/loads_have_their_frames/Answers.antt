use Rattle.flat_stress.proofs.LoadLemmas.{loads_have_their_frames}
use Rattle.flat_stress.proofs.laws.loads_have_their_frames.Goals as goal

pub returns : goal.returns
returns c = loads_have_their_frames
