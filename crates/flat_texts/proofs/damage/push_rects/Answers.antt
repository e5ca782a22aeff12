use Rattle.flat_page.proofs.lemmas.PageLemmas.{more_lines}
use Rattle.flat_texts.specs.Damages.{rect_line}
use Rattle.flat_texts.proofs.damage.push_rects.Goals as goal

pub loop-r-preserved : goal.loop-r-preserved
loop-r-preserved c = more_lines rect_line c.args.rects.now c.loop-r.r-index _ c.loop-r-test.true c.loop-r.invariant c.in_ok-push_rect.ensures
