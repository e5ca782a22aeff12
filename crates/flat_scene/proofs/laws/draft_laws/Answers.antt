use Rattle.flat_scene.proofs.lemmas.CycleLemmas.{cycle-is-reached}
use Rattle.flat_scene.proofs.PathLemmas.{one-node-a-path}
use Rattle.flat_scene.proofs.laws.draft_laws.Goals as goal

pub returns-clause-cycle_is_reached : goal.returns-clause-cycle_is_reached
returns-clause-cycle_is_reached c = cycle-is-reached

pub returns-clause-one_node_a_path : goal.returns-clause-one_node_a_path
returns-clause-one_node_a_path c = one-node-a-path
