use Rattle.std.proofs.Common.{◌≡◌, Option, None, IfNone, sym, ap, subst}
use Rattle.flat_setup.specs.declared.fault.SetupFault.{SetupFault}
use Rattle.flat_setup.specs.Builders.{Built, Plan, IsKept, IsNewSetup, built}
use Rattle.flat_setup.specs.Faults.{fault_of}
use Rattle.flat_setup.proofs.FaultLemmas.{new-setup}
use Rattle.flat_setup.proofs.builder.SetupBuilder.build.Goals as goal

pub invariant_of-result : goal.invariant_of-result
invariant_of-result c =
    let plan : Plan = record { setup = c.self.inside.setup; display = c.self.inside.display; sessions = c.self.inside.sessions } in
    let P : Plan → Type 0 = λ p. fault_of p ≡ None in
    let none : fault_of plan ≡ None = subst P (sym c.self.view_is) (sym c.in_default.ensures.first) in
    let kept : IsKept plan = subst IsKept (sym c.self.view_is) c.fault.ensures.kept in
    rw (c.in_ok-shares.ensures, c.as_slice.ensures) (new-setup plan kept none)

pub returns-clause-made : goal.returns-clause-made
returns-clause-made c =
    let plan : Plan = record { setup = c.self.inside.setup; display = c.self.inside.display; sessions = c.self.inside.sessions } in
    let P : Plan → Type 0 = λ p. fault_of p ≡ None in
    let none : fault_of plan ≡ None = subst P (sym c.self.view_is) (sym c.in_default.ensures.first) in
    let kept : IsKept plan = subst IsKept (sym c.self.view_is) c.fault.ensures.kept in
    let made : Built = record { setup = c.self.inside.setup; shares = c.in_ok-shares.shares } in
    let Q : Option SetupFault → Type 0 = λ f. IfNone f ((made ≡ built c.args.self) × IsNewSetup made) in
    let same : made ≡ built c.args.self = rw (c.in_ok-shares.ensures, c.as_slice.ensures) (ap built c.self.view_is) in
    let new : IsNewSetup made = rw (c.in_ok-shares.ensures, c.as_slice.ensures) (new-setup plan kept none) in
    subst Q c.in_default.ensures.first (same, new)
