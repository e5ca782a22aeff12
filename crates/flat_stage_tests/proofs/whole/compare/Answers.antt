use Rattle.std.proofs.Common.{◌≡◌, refl, sym, ap, ◌∙◌, subst}
use Rattle.flat_base.specs.declared.ids.Actor.TheVariants.{Display}
use Rattle.flat_scene.specs.declared.script.WaitCondition.TheVariants.{Presents}
use Rattle.flat_scene.specs.declared.setup.Setup.{Setup}
use Rattle.flat_core.specs.Machines.{MayLook}
use Rattle.flat_stage.specs.Displays.{DisplayView}
use Rattle.flat_stage.specs.Seats.{setup_of}
use Rattle.flat_stage_tests.proofs.whole.compare.Goals as goal

pub look-requires-clause-may : goal.look-requires-clause-may
look-requires-clause-may g c =
    let M : Setup → Type 0 = λ s. MayLook s Display (Presents (record { 0 = 1 }) 1) in
    let same = ap (λ (d : DisplayView). setup_of d.stage) c.begin.ensures.enters.rest ∙ ap setup_of c.requires.own ∙ c.requires.setup ∙ c.requires.is in
    subst M (sym same) (record { acts = refl; named = refl })
