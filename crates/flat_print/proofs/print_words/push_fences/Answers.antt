use Rattle.flat_print.specs.Print.{fence_word}
use Rattle.flat_page.proofs.lemmas.PageLemmas.{more_mapped}
use Rattle.flat_print.proofs.print_words.push_fences.Goals as goal

pub loop-fence-preserved : goal.loop-fence-preserved
loop-fence-preserved c = more_mapped (fence_word c.args.script.now) c.args.fences.now c.loop-fence.fence-index _ c.loop-fence-test.true c.loop-fence.invariant
    (rw c.fence_word.ensures at c.in_ok-word.ensures)
