use Rattle.std.proofs.Common.{◌∙◌}
use Rattle.flat_stage.specs.Displays.{DisplayView}
use Rattle.flat_shell.proofs.Living.{looked_kept, looked_last}
use Rattle.flat_shell.proofs.compositor.DisplayCompositor.look.Goals as goal

pub invariant_of-self : goal.invariant_of-self
invariant_of-self g c =
    let seat : DisplayView = c.self.inside.compositor.display in
    let seat' : DisplayView = c.look.new.self.display in
    let looks = c.look.ensures in (
      looked_kept c.self.inside.keeper seat seat' c.self.invariant.0 looks.sees looks.legal looks.whole,
      looked_last c.self.inside.keeper seat seat' c.self.invariant.0 looks.sees looks.legal looks.whole c.self.inside.last c.self.invariant.1,
      looks.keeps.is_open ∙ c.self.invariant.2,
    )
