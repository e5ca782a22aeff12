use Rattle.flat_laws.proofs.Taking.{taken-once, taken-were-due}
use Rattle.flat_laws.proofs.presents.frames_take_what_is_due.Goals as goal

pub returns-clause-due : goal.returns-clause-due
returns-clause-due c = taken-were-due

pub returns-clause-once : goal.returns-clause-once
returns-clause-once c = taken-once
