use Rattle.flat_why.proofs.Decide.{standings-decide}
use Rattle.flat_why.proofs.laws.standings_decide.Goals as goal

pub returns : goal.returns
returns c = standings-decide c.links_make_a_tree.ensures.connected
