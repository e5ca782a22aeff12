use Rattle.flat_examples.proofs.ReasonRows.{each-reason-is-given}
use Rattle.flat_examples.proofs.reasons_are_given.Goals as goal

pub returns : goal.returns
returns c = each-reason-is-given
