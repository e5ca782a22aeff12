use Rattle.std.proofs.Common.{◌∙◌, ap, Bool}
use Rattle.flat_links.specs.Views.{child_by}
use Rattle.flat_links.proofs.ToldLinks.{child-kept, pair-of}
use Rattle.flat_links.proofs.link_table.LinkTable.child.Goals as goal

pub returns : goal.returns
returns c h n tied legal =
    let kept = pair-of c.args.setup.now h c.args.self.now.linked_sessions.items c.args.self.now.pairs.items c.args.p c.state.result tied c.requires.known
    c.state.ensures in
    c.child_by.ensures ∙ ap (λ (b : Bool). child_by b c.is_pair.result) c.is_lost.ensures ∙ ap (child_by _) c.is_pair.ensures
    ∙ child-kept c.args.setup.now h c.args.p n c.at.result.now c.at.ensures c.state.result kept c.last_seen_at_begin-owner.result
    (c.last_seen_at_begin-owner.ensures c.args.setup.now h tied legal)
