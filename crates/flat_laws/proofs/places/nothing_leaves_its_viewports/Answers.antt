use Rattle.flat_laws.proofs.Insides.{nodes-in-viewports-are-placed, hits-stay-in-viewports, items-stay-in-viewports}
use Rattle.flat_laws.proofs.places.nothing_leaves_its_viewports.Goals as goal

pub returns-clause-placed : goal.returns-clause-placed
returns-clause-placed c = nodes-in-viewports-are-placed

pub returns-clause-items : goal.returns-clause-items
returns-clause-items c = items-stay-in-viewports

pub returns-clause-hits : goal.returns-clause-hits
returns-clause-hits c = hits-stay-in-viewports
