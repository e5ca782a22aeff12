use Rattle.flat_topology.proofs.FewSessions.{few_sessions}
use Rattle.flat_topology.proofs.sessions_are_few.Goals as goal

pub returns : goal.returns
returns c = few_sessions
