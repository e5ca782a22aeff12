use Rattle.flat_facts.proofs.lemmas.TokenLaw.{counted}
use Rattle.flat_facts.proofs.laws.tokens_follow_releases.Goals as goal

pub returns-clause-tokens : goal.returns-clause-tokens
returns-clause-tokens c = λ setup history legal s p declared owned opened. (counted setup s p owned declared history legal opened).token

pub returns-clause-one : goal.returns-clause-one
returns-clause-one c = λ setup history legal s p declared owned opened. (counted setup s p owned declared history legal opened).few
