use Rattle.std.proofs.Common.{◌∙◌}
use Rattle.flat_links.proofs.ToldLinks.{pair-of, props-kept}
use Rattle.flat_links.proofs.link_table.LinkTable.props.Goals as goal

pub returns-in-Session : goal.returns-in-Session
returns-in-Session c h tied shows =
    let kept = pair-of c.args.setup.now h c.args.self.now.linked_sessions.items c.args.self.now.pairs.items c.args.p c.state-state.result tied c.requires.known
    c.state-state.ensures in
    c.latest.ensures ∙ props-kept c.args.setup.now h c.args.p c.in-Session.field-0 c.at.result.now c.at.ensures c.in-Session.is c.state-state.result kept
