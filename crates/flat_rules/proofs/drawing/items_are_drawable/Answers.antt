use Rattle.flat_rules.proofs.FairItems.{items-are-drawable}
use Rattle.flat_rules.proofs.drawing.items_are_drawable.Goals as goal

pub returns : goal.returns
returns c = items-are-drawable
