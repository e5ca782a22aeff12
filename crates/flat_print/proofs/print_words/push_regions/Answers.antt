use Rattle.flat_print.specs.Print.{region_words}
use Rattle.flat_page.proofs.lemmas.PageLemmas.{more_words}
use Rattle.flat_print.proofs.print_words.push_regions.Goals as goal

pub loop-region-preserved : goal.loop-region-preserved
loop-region-preserved c = more_words region_words c.args.regions.now c.loop-region.region-index _ c.loop-region-test.true c.loop-region.invariant
    c.in_ok-push_region.ensures
