use Rattle.std.proofs.Common.{◌+◌, ◌-◌, ℕ, length, sym, ◌∙◌, arith}
use Rattle.flat_judge.proofs.Pass.{pass-other, pass-short, pass-some}
use Rattle.flat_judge.proofs.passing.pass.Goals as goal

pub returns-then-text-at : goal.returns-then-text-at
returns-then-text-at c = pass-short c.args.text.now c.args.bytes.now c.args.at c.requires (omega (arith, c.requires, c.if-text-at.true))

pub returns-then-eq : goal.returns-then-eq
returns-then-eq c =
    let n : ℕ = c.args.at + length c.args.bytes.now - c.args.at in
    pass-some c.args.text.now c.args.bytes.now c.args.at n (omega arith) (omega (arith, c.requires, c.if-text-at.false)) (sym c.eq.ensures ∙ c.if-eq.true)

pub returns-else-eq : goal.returns-else-eq
returns-else-eq c =
    let n : ℕ = c.args.at + length c.args.bytes.now - c.args.at in
    pass-other c.args.text.now c.args.bytes.now c.args.at n (omega arith) (sym c.eq.ensures ∙ c.if-eq.false)
