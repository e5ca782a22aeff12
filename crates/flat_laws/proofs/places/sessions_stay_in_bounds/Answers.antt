use Rattle.flat_laws.proofs.Bounds.{sessions-stay-in-bounds}
use Rattle.flat_laws.proofs.places.sessions_stay_in_bounds.Goals as goal

pub returns : goal.returns
returns c = sessions-stay-in-bounds c.links_make_a_tree.ensures.once
