use Rattle.flat_laws.proofs.Absent.{closed-are-absent}
use Rattle.flat_laws.proofs.shows.closed_sessions_are_absent.Goals as goal

pub returns : goal.returns
returns c = closed-are-absent
