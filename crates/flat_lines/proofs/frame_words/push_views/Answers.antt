use Rattle.flat_page.proofs.lemmas.PageLemmas.{more_lines}
use Rattle.flat_lines.specs.FrameLines.{view_line}
use Rattle.flat_lines.proofs.frame_words.push_views.Goals as goal

pub loop-view-preserved : goal.loop-view-preserved
loop-view-preserved c = more_lines (view_line c.args.script.now) c.args.views.now c.loop-view.view-index _ c.loop-view-test.true c.loop-view.invariant
    c.in_ok-push_view.ensures
