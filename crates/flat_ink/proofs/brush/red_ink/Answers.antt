use Rattle.std.proofs.Common.{if◌then◌else◌, refl}
use Rattle.flat_ink.specs.Colours.{red_at}
use Rattle.flat_ink.specs.Pixels.{buffer_column}
use Rattle.flat_ink.specs.declared.texture.Texture.{Texture}
use Rattle.flat_ink.proofs.lemmas.Brushing.{shade-ink}
use Rattle.flat_ink.proofs.brush.red_ink.Goals as goal

pub returns : goal.returns
returns c =
    let t : Texture = c.args.texture.now in
    shade-ink 0 c.args.item.now t c.args.cut c.red_shade.result c.image_mix.result
    (λ px py. red_at t.index (buffer_column t.columns t.sample t.flip (if t.swap then py else px)))
    c.requires.texture c.red_shade.ensures.shade c.image_mix.ensures c.red_shade.ensures.values (λ px py. refl)
