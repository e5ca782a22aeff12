use Rattle.std.proofs.Common.{◌≡◌, None, sym, subst}
use Rattle.flat_setup.specs.Builders.{Plan}
use Rattle.flat_setup.specs.Faults.{session_fault}
use Rattle.flat_setup.proofs.Held.{held-session}
use Rattle.flat_setup.proofs.builder.SetupBuilder.session.Goals as goal

pub invariant_of-self-2 : goal.invariant_of-self-2
invariant_of-self-2 c =
    let plan : Plan = record { setup = c.self.inside.setup; display = c.self.inside.display; sessions = c.self.inside.sessions } in
    let P : Plan → Type 0 = λ p. session_fault p c.args.entries ≡ None in
    let none : session_fault plan c.args.entries ≡ None = subst P (sym c.self.view_is) (sym c.in_default.ensures) in
    rw c.in_ok-push.ensures.ok (rw c.from.ensures (rw c.from-2.ensures
    (held-session plan c.self.inside.paired c.self.inside.total c.self.invariant c.args.entries none)))
