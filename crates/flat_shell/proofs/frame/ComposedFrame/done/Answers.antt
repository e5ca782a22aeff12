use Rattle.std.proofs.Common.{◌≡◌, ◌+◌, ℕ, length, Some, refl, ap, subst}
use Rattle.flat_scene.specs.declared.journal.EntryKind.TheVariants.{Finish}
use Rattle.flat_scene.specs.declared.journal.Reply.TheVariants.{Done}
use Rattle.flat_stage.specs.Displays.{DisplayEnters, DisplayView}
use Rattle.flat_shell.specs.declared.compositor_parts.CompositorParts.{CompositorParts}
use Rattle.flat_shell.proofs.Living.{done_then}
use Rattle.flat_shell.proofs.frame.ComposedFrame.done.Goals as goal

pub invariant_of-result : goal.invariant_of-result
invariant_of-result g c =
    let keeper : CompositorParts = c.self.inside.keeper in
    let seat : DisplayView = c.self.inside.compositor.display in
    let numbered : keeper.made + 1 ≡ length seat.mine + 1 = ap (λ n. n + 1) c.self.invariant.0.made in
    let P : ℕ → Type 0 = λ n. DisplayEnters n Finish Done seat c.done-finished.new.self.display in
    let both = done_then keeper (record keeper { made = keeper.made + 1; frames = c.done-finished.result; shown = Some c.self.inside.out }) c.self.inside.last
    (record c.self.inside.last { frame = c.done-finished.result }) seat c.done-finished.new.self.display c.done-finished.result
    c.self.invariant.0 c.self.invariant.1 (subst P numbered c.done-finished.ensures.ends.enters) c.done-finished.ensures.frame
    (λ i. let k : CompositorParts = record keeper { made = numbered i; frames = c.done-finished.result; shown = Some (c.self.invariant.2 i) } in k) refl in
    (both.0, both.1, c.done-finished.ensures.ends.closed)
