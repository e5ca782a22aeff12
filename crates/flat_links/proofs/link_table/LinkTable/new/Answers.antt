use Rattle.flat_links.proofs.NewLinks.{new-tied}
use Rattle.flat_links.proofs.link_table.LinkTable.new.Goals as goal

pub returns : goal.returns
returns c =
    new-tied c.args.setup.now _ _ c.len.result c.in_ok-linked_sessions.ensures c.in_ok-pairs.ensures c.len.ensures
