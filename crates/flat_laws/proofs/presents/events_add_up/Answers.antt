use Rattle.flat_laws.proofs.Adding.{credits-are-told, presented-add-up, presented-once}
use Rattle.flat_laws.proofs.presents.events_add_up.Goals as goal

pub returns-clause-once : goal.returns-clause-once
returns-clause-once c = presented-once

pub returns-clause-presented : goal.returns-clause-presented
returns-clause-presented c = presented-add-up

pub returns-clause-credited : goal.returns-clause-credited
returns-clause-credited c = credits-are-told c.credits_add_up.ensures
