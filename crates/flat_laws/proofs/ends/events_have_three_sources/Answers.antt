use Rattle.flat_laws.proofs.Sources.{closed-hear-nothing, three-kinds}
use Rattle.flat_laws.proofs.ends.events_have_three_sources.Goals as goal

pub returns-clause-three : goal.returns-clause-three
returns-clause-three c = three-kinds

pub returns-clause-closed : goal.returns-clause-closed
returns-clause-closed c = closed-hear-nothing
