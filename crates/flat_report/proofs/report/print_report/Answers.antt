use Rattle.std.proofs.Common.{◌≡◌, ℕ, List, IfOk, subst}
use Rattle.flat_report.proofs.report.print_report.Goals as goal

pub returns : goal.returns
returns c =
    let P : List ℕ → Type 0 = λ whole. IfOk c.print_whole.result (λ text. text ≡ whole) in
    subst P (c.whole.ensures.text c.args.script.now c.args.run.now.probes.now) c.print_whole.ensures
