use Rattle.std.proofs.Common.{◌≡◌, ◌+◌, ℕ, length, sym, ap, subst}
use Rattle.flat_scene.specs.declared.journal.EntryKind.TheVariants.{Begin}
use Rattle.flat_scene.specs.declared.journal.Reply.TheVariants.{Done}
use Rattle.flat_scene.specs.Journals.{history_of}
use Rattle.flat_core.specs.declared.start.FrameStart.{FrameStart}
use Rattle.flat_core.specs.Starts.{IsStart}
use Rattle.flat_stage.specs.Displays.{CompositorView, DisplayEnters, DisplayView}
use Rattle.flat_stage.specs.Seats.{setup_of}
use Rattle.flat_shell.specs.declared.compositor_parts.CompositorParts.{CompositorParts}
use Rattle.flat_shell.specs.Live.{MayBegin}
use Rattle.flat_shell.proofs.Living.{begun_then}
use Rattle.flat_shell.proofs.compositor.DisplayCompositor.begin.Goals as goal

pub invariant_of-result : goal.invariant_of-result
invariant_of-result g c =
    let keeper : CompositorParts = c.self.inside.keeper in
    let old : CompositorView = c.self.inside.compositor in
    let new : CompositorView = c.begin.new.self in
    let numbered : keeper.made + 1 ≡ length old.display.mine + 1 = ap (λ n. n + 1) c.self.invariant.0.made in
    let P : ℕ → Type 0 = λ n. DisplayEnters n (Begin c.args.time) Done old.display new.display in
    let M : DisplayView → Type 0 = λ d. MayBegin c.args.time d in
    let S : FrameStart → Type 0 = λ s. IsStart (setup_of old.display.stage) (history_of old.display.seen) s in
    let both = begun_then keeper (record keeper { made = keeper.made + 1; time = c.args.time }) c.self.inside.last old new c.args.time
    c.self.invariant.0 c.self.invariant.1 (subst S c.start.ensures.is c.start.ensures.starts)
    (subst P numbered c.begin.ensures.enters) (ap (λ n. let k : CompositorParts = record keeper { made = n; time = c.args.time } in k) numbered)
    (subst M (sym c.self.view_is) c.requires.may) c.begin.ensures.starts in
    (both.0, both.1, c.begin.ensures.open)
