use Rattle.flat_rules.proofs.CloseLemmas.{refusal-closes, close-closes, other-replies-close-none}
use Rattle.flat_rules.proofs.RefusalLemmas.{refusals-are-of-lines}
use Rattle.flat_rules.proofs.seats.refusals_close.Goals as goal

pub returns-clause-refused : goal.returns-clause-refused
returns-clause-refused c = refusal-closes

pub returns-clause-closed : goal.returns-clause-closed
returns-clause-closed c = close-closes

pub returns-clause-others : goal.returns-clause-others
returns-clause-others c = other-replies-close-none

pub returns-clause-lines : goal.returns-clause-lines
returns-clause-lines c = refusals-are-of-lines
