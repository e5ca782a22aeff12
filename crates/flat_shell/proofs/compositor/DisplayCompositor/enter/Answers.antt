use Rattle.std.proofs.Common.{◌≡◌, ◌+◌, ◌<◌, ℕ, length, sym, ap, ◌∙◌, subst}
use Rattle.flat_scene.specs.Interleave.{entry_of_display}
use Rattle.flat_play.proofs.lemmas.Beside.{leaves_frames}
use Rattle.flat_stage.specs.Displays.{DisplayEnters, DisplayView}
use Rattle.flat_shell.specs.declared.compositor_parts.CompositorParts.{CompositorParts}
use Rattle.flat_shell.specs.Live.{left}
use Rattle.flat_shell.proofs.Living.{beside_then}
use Rattle.flat_shell.proofs.compositor.DisplayCompositor.enter.Goals as goal

pub invariant_of-self : goal.invariant_of-self
invariant_of-self g c =
    let keeper : CompositorParts = c.self.inside.keeper in
    let seat : DisplayView = c.self.inside.compositor.display in
    let seat' : DisplayView = c.enter.new.self.display in
    let leaves = leaves_frames c.args.text c.requires.beside in
    let numbered : c.in_ok-number.number ≡ length seat.mine + 1 = c.in_ok-number.ensures.number
    ∙ ap (λ (d : DisplayView). length d.mine + 1) (sym c.self.view_is) in
    let P : ℕ → Type 0 = λ n. DisplayEnters n (entry_of_display c.args.text) c.enter.result seat seat' in
    let R : DisplayView → Type 0 = λ d. 0 < left d in
    let both = beside_then keeper (record keeper { made = c.in_ok-number.number }) c.self.inside.last seat seat' c.self.invariant.0 c.self.invariant.1
    (entry_of_display c.args.text) c.enter.result
    (subst P numbered c.enter.ensures.enters) leaves.no_begin leaves.no_finish (ap (λ n. let k : CompositorParts = record keeper { made = n } in k) numbered)
    (subst R (sym c.self.view_is) c.in_ok-number.ensures.may.1) in
    (both.0, both.1, c.enter.ensures.keeps.is_open ∙ c.self.invariant.2)
