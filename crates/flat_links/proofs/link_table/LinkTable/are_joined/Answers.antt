use Rattle.std.proofs.Common.{◌∙◌, sym}
use Rattle.flat_links.proofs.ToldLinks.{pair-of, joined-told}
use Rattle.flat_links.proofs.link_table.LinkTable.are_joined.Goals as goal

pub returns-in_default : goal.returns-in_default
returns-in_default c h tied is =
    let kept = pair-of c.args.setup.now h c.args.self.now.linked_sessions.items c.args.self.now.pairs.items c.args.p c.state.result tied c.requires.known
    c.state.ensures in
    c.is_some.ensures ∙ joined-told c.args.setup.now h c.args.p c.at.result.now c.at.ensures c.in_default.not-Display (sym is ∙ c.if-is_viewed.true)
    c.state.result kept
