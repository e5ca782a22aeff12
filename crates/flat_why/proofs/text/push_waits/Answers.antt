use Rattle.flat_page.proofs.lemmas.PageLemmas.{more_lines}
use Rattle.flat_why.specs.Text.{wait_line}
use Rattle.flat_why.proofs.text.push_waits.Goals as goal

pub loop-waiting-preserved : goal.loop-waiting-preserved
loop-waiting-preserved c = more_lines (wait_line c.args.script.now c.args.frame.0) c.args.waits.now c.loop-waiting.waiting-index _ c.loop-waiting-test.true
    c.loop-waiting.invariant c.in_ok-push_wait_line.ensures
