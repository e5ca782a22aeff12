use Rattle.std.proofs.Common.{Global, ◌≡◌, ℕ, List, [], drop, map, sym, ap, ◌∙◌, arith}
use Rattle.std.specs.Arc.{arc_value}
use Rattle.std.specs.declared.sync.Arc.{Arc}
use Rattle.std.specs.List.{concat}
use Rattle.flat_judge.specs.Parting.{parts_from}
use Rattle.flat_judge.proofs.Partings.{all-past, parts-longer, parts-same}
use Rattle.flat_judge.proofs.parting.parts_at.Goals as goal

pub returns-then-is_report : goal.returns-then-is_report
returns-then-is_report c =
    let report = c.args.report.now in
    let same = c.is_report.ensures c.if-is_report.true in
    sym (ap (λ (text : List ℕ). parts_from 1 text report) same ∙ parts-same 1 report)

pub returns-then-at-text : goal.returns-then-at-text
returns-then-at-text c =
    let text = c.args.text.now in
    let runs = c.as_slice-runs.result.now in
    let none : drop c.loop-run.run-index runs ≡ [] = all-past runs c.loop-run.run-index (omega (arith, c.loop-run-test.false)) in
    sym (c.loop-run.invariant.2 ∙ ap (λ (rs : List (Arc (List ℕ) Global)). parts_from c.loop-run.line (drop c.loop-run.at text) (concat (map arc_value rs)))
    none
    ∙ parts-longer c.loop-run.line c.loop-run.at text (omega (arith, c.if-at-text.true)))
