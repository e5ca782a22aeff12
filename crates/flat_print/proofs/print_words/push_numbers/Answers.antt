use Rattle.std.specs.Fmt.{decimal}
use Rattle.flat_page.proofs.lemmas.PageLemmas.{more_mapped}
use Rattle.flat_print.proofs.print_words.push_numbers.Goals as goal

pub loop-value-preserved : goal.loop-value-preserved
loop-value-preserved c = more_mapped decimal c.args.values.now c.loop-value.value-index 0 c.loop-value-test.true c.loop-value.invariant c.in_ok-count.ensures
