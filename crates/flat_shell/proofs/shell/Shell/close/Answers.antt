use Rattle.std.proofs.Common.{◌≡◌, true, sym, ap, ◌∙◌, subst}
use Rattle.flat_core.specs.Machines.{Machine}
use Rattle.flat_stage.specs.Displays.{DisplayView}
use Rattle.flat_stage.specs.Seats.{setup_of, shares_of}
use Rattle.flat_shell.specs.Closing.{IsClosed}
use Rattle.flat_shell.specs.Shells.{ShellView, all_home}
use Rattle.flat_shell.proofs.shell.Shell.close.Goals as goal

pub returns-in-Some : goal.returns-in-Some
returns-in-Some c =
    let old : ShellView = record { stage = c.self.inside.seats.stage; home = c.self.inside.seats.seats; handed = c.self.inside.handed.items } in
    let board : Machine = c.close.result in
    let of : c.in-Some.stage ≡ old.stage = c.in-Some.ensures ∙ sym c.self.invariant.own in
    let S : ShellView → Type 0 = λ v. IsClosed v c.args.compositor board in
    let D : DisplayView → Type 0 = λ d. IsClosed old d board in
    let home : all_home c.args.self ≡ true = sym c.all_home.ensures ∙ c.if-not-all_home.false in (
      home,
      subst S c.self.view_is (subst D c.compositor.view_is (record {
        setup = c.close.ensures.fixed.0 ∙ ap setup_of of;
        shares = c.close.ensures.fixed.1 ∙ ap shares_of of;
        legal = c.close.ensures.legal;
        display = c.close.ensures.compositor;
        sessions = c.close.ensures.sessions;
      })),
    )
