use Rattle.flat_why.proofs.Hiding.{hidden-have-causes}
use Rattle.flat_why.proofs.laws.hidden_have_causes.Goals as goal

pub returns : goal.returns
returns c = hidden-have-causes c.standings_decide.ensures c.shown_states_fit.ensures.begun c.views_follow_links.ensures.sessions
