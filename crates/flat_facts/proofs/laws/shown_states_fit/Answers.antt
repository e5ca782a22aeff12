use Rattle.flat_facts.proofs.lemmas.ShownFits.{begun-fits, states-fit}
use Rattle.flat_rules.proofs.lemmas.ShownList.{length-listed, length-sessions, nothing-shown}
use Rattle.flat_rules.specs.Shown.{shown}
use Rattle.flat_facts.proofs.laws.shown_states_fit.Goals as goal

pub returns-clause-fits : goal.returns-clause-fits
returns-clause-fits c = states-fit

pub returns-clause-begun : goal.returns-clause-begun
returns-clause-begun c = begun-fits

pub returns-clause-each : goal.returns-clause-each
returns-clause-each c = λ setup history. length-listed (shown setup history) setup.sessions

pub returns-clause-nothing : goal.returns-clause-nothing
returns-clause-nothing c = nothing-shown

pub returns-clause-sessions : goal.returns-clause-sessions
returns-clause-sessions c = length-sessions
