use Rattle.flat_graph.proofs.StandingCalls.{stands-empty}
use Rattle.flat_graph.proofs.lemmas.StandingLaws as laws
use Rattle.flat_graph.proofs.laws.graph_laws.Goals as goal

pub returns-clause-empty_stands : goal.returns-clause-empty_stands
returns-clause-empty_stands c = stands-empty

pub returns-clause-graph_calls_stand : goal.returns-clause-graph_calls_stand
returns-clause-graph_calls_stand c = laws.graph_calls_stand

pub returns-clause-other_calls_stand : goal.returns-clause-other_calls_stand
returns-clause-other_calls_stand c = laws.other_calls_stand
