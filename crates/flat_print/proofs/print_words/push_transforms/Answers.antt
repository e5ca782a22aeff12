use Rattle.std.specs.Fmt.{decimal}
use Rattle.flat_base.specs.declared.ids.TransformId.{TransformId}
use Rattle.flat_page.proofs.lemmas.PageLemmas.{more_mapped}
use Rattle.flat_print.proofs.print_words.push_transforms.Goals as goal

pub loop-transform-preserved : goal.loop-transform-preserved
loop-transform-preserved c = more_mapped (λ (t : TransformId). decimal t.0) c.args.transforms.now c.loop-transform.transform-index (record { 0 = 0 })
    c.loop-transform-test.true c.loop-transform.invariant c.in_ok-count.ensures
