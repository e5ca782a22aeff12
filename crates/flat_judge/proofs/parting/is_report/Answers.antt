use Rattle.std.proofs.Common.{◌≡◌, ◌++◌, ℕ, List, [], length, drop, refl, ap, ◌∙◌, arith, append-nil}
use Rattle.std.proofs.lemmas.Bool.{eqb-true}
use Rattle.flat_judge.specs.Following.{Begins}
use Rattle.flat_judge.proofs.Partings.{all-past}
use Rattle.flat_judge.proofs.parting.is_report.Goals as goal

pub returns-in-Some : goal.returns-in-Some
returns-in-Some c = λ same.
    let text = c.args.text.now in
    let report = c.args.report.now in
    let begins : Begins text report c.in-Some.end = c.in-Some.ensures.1 [] (record { long = refl; is = refl }) in
    let ends : c.in-Some.end ≡ length text = eqb-true c.in-Some.end (length text) same in
    let none : drop c.in-Some.end text ≡ [] = all-past text c.in-Some.end (omega (arith, ends)) in
    begins.is ∙ ap (λ (rest : List ℕ). report ++ rest) none ∙ append-nil report
