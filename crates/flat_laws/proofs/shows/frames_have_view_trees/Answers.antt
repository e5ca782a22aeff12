use Rattle.flat_laws.proofs.Hanging.{frames-have-view-trees}
use Rattle.flat_laws.proofs.shows.frames_have_view_trees.Goals as goal

pub returns : goal.returns
returns c = frames-have-view-trees c.shown_states_fit.ensures.fits c.views_are_a_tree.ensures.tree c.views_follow_links.ensures.parents
