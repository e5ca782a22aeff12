use Rattle.flat_report.proofs.DueLemmas.{due-presents-are-taken}
use Rattle.flat_report.proofs.laws.due_presents_are_taken.Goals as goal

pub returns : goal.returns
returns c = due-presents-are-taken
