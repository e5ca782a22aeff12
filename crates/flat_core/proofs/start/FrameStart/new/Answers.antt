use Rattle.std.proofs.Common.{refl}
use Rattle.flat_core.proofs.Starting.{starts-empty}
use Rattle.flat_core.proofs.start.FrameStart.new.Goals as goal

pub returns : goal.returns
returns c = starts-empty _ _ (c.in_ok-new.ensures).size (c.in_ok-new.ensures).none refl refl
