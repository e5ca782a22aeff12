use Rattle.flat_page.proofs.lemmas.PageLemmas.{more_lines}
use Rattle.flat_lines.specs.FrameLines.{apart_line}
use Rattle.flat_lines.proofs.frame_words.push_aparts.Goals as goal

pub loop-session-preserved : goal.loop-session-preserved
loop-session-preserved c = more_lines (apart_line c.args.script.now) c.args.sessions.now c.loop-session.session-index _ c.loop-session-test.true
    c.loop-session.invariant c.in_ok-push_apart.ensures
