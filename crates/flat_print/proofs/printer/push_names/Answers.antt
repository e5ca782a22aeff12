use Rattle.std.proofs.Common.{ap, ◌∙◌}
use Rattle.flat_print.specs.Print.{name_words}
use Rattle.flat_print.proofs.LineLemmas.{more_lines}
use Rattle.flat_print.proofs.printer.push_names.Goals as goal

pub loop-name-preserved : goal.loop-name-preserved
loop-name-preserved c =
    let g = name_words c.args.keyword.now in
    more_lines g c.args.names.now c.loop-name.name-index c.name-item.result _ c.loop-name-test.true (ap g (c.as_slice.ensures ∙ c.name-item.is))
    c.loop-name.invariant c.in_ok-push_name.ensures
