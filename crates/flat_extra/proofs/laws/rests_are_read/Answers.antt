use Rattle.flat_extra.proofs.Rising.{focus-rest, pointer-rest}
use Rattle.flat_extra.proofs.laws.rests_are_read.Goals as goal

pub returns-clause-focus : goal.returns-clause-focus
returns-clause-focus c = focus-rest

pub returns-clause-pointers : goal.returns-clause-pointers
returns-clause-pointers c = pointer-rest
