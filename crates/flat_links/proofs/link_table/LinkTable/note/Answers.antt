use Rattle.flat_links.proofs.lemmas.LinksSteps.{tied-noted}
use Rattle.flat_links.proofs.link_table.LinkTable.note.Goals as goal

pub returns-clause-tied : goal.returns-clause-tied
returns-clause-tied c setup h e entry no_use tied =
    tied-noted setup c.args.s h e c.args.calls.now c.args.account c.args.live.now entry c.requires.some c.note_calls.result _ _ c.requires.few _ _
    c.note_calls.ensures tied no_use
