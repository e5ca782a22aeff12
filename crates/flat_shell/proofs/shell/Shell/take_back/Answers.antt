use Rattle.std.proofs.Common.{◌≡◌, true, sym, ap, ◌∙◌, subst}
use Rattle.std.specs.Arc.{arc_value}
use Rattle.flat_base.specs.declared.ids.SessionNo.{SessionNo}
use Rattle.flat_scene.specs.Setups.{is_declared}
use Rattle.flat_stage.specs.Seats.{StageView, setup_of}
use Rattle.flat_shell.specs.Shells.{ShellView}
use Rattle.flat_shell.proofs.Shelving.{home_then}
use Rattle.flat_shell.proofs.shell.Shell.take_back.Goals as goal

pub invariant_of-self : goal.invariant_of-self
invariant_of-self g c =
    let old : ShellView = record { stage = c.self.inside.seats.stage; home = c.self.inside.seats.seats; handed = c.self.inside.handed.items } in
    let D : StageView → Type 0 = λ v. is_declared (setup_of v) c.session.result ≡ true in
    let own : c.end-seat.result.stage ≡ old.stage = c.end-seat.ensures.stage ∙ c.requires.own ∙ ap (λ (v : ShellView). v.stage) (sym c.self.view_is) in
    home_then (arc_value c.self.inside.stage) (arc_value c.self.inside.setup) c.self.inside.shares old c.self.invariant c.put.new.self c.session.result
    c.end-seat.result
    (subst D own c.session.ensures.declared) (sym (ap (λ (s : SessionNo). s.0) c.session.ensures.session)) c.put.ensures
