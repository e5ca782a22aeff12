use Rattle.flat_extra.proofs.Rising.{pointers-rise}
use Rattle.flat_extra.proofs.laws.pointers_rise.Goals as goal

pub returns : goal.returns
returns c = pointers-rise
