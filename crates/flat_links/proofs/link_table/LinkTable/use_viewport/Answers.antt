use Rattle.flat_links.proofs.lemmas.LinksSteps.{tied-used}
use Rattle.flat_links.proofs.link_table.LinkTable.use_viewport.Goals as goal

pub returns-clause-tied : goal.returns-clause-tied
returns-clause-tied c setup h e entry used tied =
    tied-used setup c.args.s h e c.args.calls.now c.args.account c.args.live.now entry c.requires.some c.note_calls-serial.result _ _ c.requires.few _ _
    c.note_calls-serial.ensures tied c.args.p c.args.props used _ c.use_pair.ensures
