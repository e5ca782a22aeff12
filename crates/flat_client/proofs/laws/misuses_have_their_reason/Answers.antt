use Rattle.flat_client.proofs.Misusing.{misuses_are_refused, misuses_have_their_reason}
use Rattle.flat_client.proofs.laws.misuses_have_their_reason.Goals as goal

pub returns-clause-refused : goal.returns-clause-refused
returns-clause-refused c = misuses_are_refused

pub returns-clause-reason : goal.returns-clause-reason
returns-clause-reason c = misuses_have_their_reason
