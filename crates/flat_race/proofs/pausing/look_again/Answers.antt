use Rattle.std.proofs.Common.{ap, ◌∙◌}
use Rattle.flat_stage.specs.Displays.{DisplayView}
use Rattle.flat_race.proofs.Looks.{looked_none, looked_more}
use Rattle.flat_race.proofs.pausing.look_again.Goals as goal

pub loop-init : goal.loop-init
loop-init g c = (c.requires.own, looked_none _ _ c.requires.legal c.requires.whole)

pub loop-preserved : goal.loop-preserved
loop-preserved g c =
    let more = c.look_once.ensures.looked in (
      ap (λ (d : DisplayView). d.stage) more.sees.rest ∙ c.loop.invariant.0,
      looked_more _ _ _ _ c.loop.invariant.1 more.sees more.legal more.whole more.keeps,
    )
