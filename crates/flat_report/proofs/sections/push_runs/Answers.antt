use Rattle.std.proofs.Common.{Global, ℕ, List, ◌++◌, ◌∙◌, ap}
use Rattle.std.specs.Arc.{arc_value}
use Rattle.std.specs.declared.sync.Arc.{Arc}
use Rattle.flat_report.proofs.Piecing.{one-run-more}
use Rattle.flat_report.proofs.sections.push_runs.Goals as goal

pub loop-run-preserved : goal.loop-run-preserved
loop-run-preserved c =
    one-run-more arc_value c.args.runs.now c.loop-run.run-index c.run-item.result c.args.paged.now c.loop-run.paged c.add.new.self c.loop-run-test.true
    c.loop-run.invariant
    (c.in_ok-add.ensures ∙ ap (λ (run : Arc (List ℕ) Global). c.loop-run.paged ++ arc_value run) c.run-item.is)
