use Rattle.std.proofs.Common.{◌∙◌}
use Rattle.flat_why.proofs.ShownPairs.{shown-flat}
use Rattle.flat_why.proofs.standings.is_shown_by.Goals as goal

pub returns-in-Some : goal.returns-in-Some
returns-in-Some c = c.is_on_node.ensures ∙ shown-flat c.args.shown.now c.args.p.0 c.args.q.0 c.deref.result.now _ c.deref.ensures c.in-Some.ensures
