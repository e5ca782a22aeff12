use Rattle.std.proofs.Common.{ℕ, Option, subst, arith}
use Rattle.flat_judge.proofs.LossesTold.{pass-on}
use Rattle.flat_judge.specs.Following.{Passes, Stays, own_text}
use Rattle.flat_judge.proofs.OneMore.{line-parts, line-passes, own-some}
use Rattle.flat_judge.proofs.following.ReplayProgress.tell_line.Goals as goal

pub returns-in-Some-clause-tells : goal.returns-in-Some-clause-tells
returns-in-Some-clause-tells c = λ before is part.
    let script = c.args.script.now in
    let P : Option ℕ → Type 0 = Passes c.args.text.now c.args.self.now.at (own_text script before c.args.entry.now) in
    let passes = subst P c.in-Some.is (c.in_ok-at.ensures.passes before is) in
    let on = pass-on c.args.text.now c.args.self.now.at c.in-Some.at (own_text script before c.args.entry.now) c.requires.within passes in
    let some = own-some script before c.args.entry.now in
    Stays.stays (line-passes script c.args.text.now before c.args.entry.now c.args.self.now c.in-Some.at part passes) (omega (arith, on, some))

pub returns-in-None-clause-tells : goal.returns-in-None-clause-tells
returns-in-None-clause-tells c = λ before is part.
    let script = c.args.script.now in
    let P : Option ℕ → Type 0 = Passes c.args.text.now c.args.self.now.at (own_text script before c.args.entry.now) in
    Stays.parts (line-parts script c.args.text.now before c.args.entry.now c.args.self.now part (subst P c.in-None.is (c.in_ok-at.ensures.passes before is)))
    part.losses
