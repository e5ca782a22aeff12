use Rattle.flat_page.proofs.lemmas.PageLemmas.{more_mapped}
use Rattle.flat_page.specs.Words.{session_name}
use Rattle.flat_focus.proofs.text.push_names.Goals as goal

pub loop-session-preserved : goal.loop-session-preserved
loop-session-preserved c =
    more_mapped (session_name c.args.names.now) c.args.chain.now c.loop-session.session-index _ c.loop-session-test.true c.loop-session.invariant
    (rw c.session_name.ensures at c.in_ok-word.ensures)
