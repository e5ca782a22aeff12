use Rattle.std.proofs.Common.{◌∙◌}
use Rattle.flat_links.proofs.ToldLinks.{lost-told, pair-of}
use Rattle.flat_links.proofs.link_table.LinkTable.is_viewport_lost.Goals as goal

pub returns-in-Session : goal.returns-in-Session
returns-in-Session c h tied legal =
    let kept = pair-of c.args.setup.now h c.args.self.now.linked_sessions.items c.args.self.now.pairs.items c.args.p c.state.result tied c.requires.known
    c.state.ensures in
    c.is_lost.ensures
    ∙ lost-told c.args.setup.now h c.args.p c.in-Session.v c.at.result.now c.at.ensures c.in-Session.is c.state.result kept c.last_seen_at_begin.result
    (c.last_seen_at_begin.ensures c.args.setup.now h tied legal)
