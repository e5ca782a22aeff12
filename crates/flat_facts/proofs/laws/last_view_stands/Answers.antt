use Rattle.flat_facts.proofs.lemmas.HasView.{has-view}
use Rattle.flat_facts.proofs.laws.last_view_stands.Goals as goal

pub returns : goal.returns
returns c = λ setup history legal s. has-view setup s history legal
