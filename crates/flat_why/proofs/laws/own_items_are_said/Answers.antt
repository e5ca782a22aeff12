use Rattle.flat_why.proofs.Counting.{own-items-are-said}
use Rattle.flat_why.proofs.laws.own_items_are_said.Goals as goal

pub returns : goal.returns
returns c = own-items-are-said
