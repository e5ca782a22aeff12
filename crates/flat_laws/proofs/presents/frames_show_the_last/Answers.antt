use Rattle.flat_laws.proofs.Taking.{squashed-are-never-shown, unsquashable-are-shown}
use Rattle.flat_laws.proofs.presents.frames_show_the_last.Goals as goal

pub returns-clause-unsquashable : goal.returns-clause-unsquashable
returns-clause-unsquashable c = unsquashable-are-shown

pub returns-clause-squashed : goal.returns-clause-squashed
returns-clause-squashed c = squashed-are-never-shown
