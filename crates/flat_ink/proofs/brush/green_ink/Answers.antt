use Rattle.std.proofs.Common.{if◌then◌else◌, refl}
use Rattle.flat_ink.specs.Colours.{green_at}
use Rattle.flat_ink.specs.Pixels.{buffer_row}
use Rattle.flat_ink.specs.declared.texture.Texture.{Texture}
use Rattle.flat_ink.proofs.lemmas.Brushing.{shade-ink}
use Rattle.flat_ink.proofs.brush.green_ink.Goals as goal

pub returns : goal.returns
returns c =
    let t : Texture = c.args.texture.now in
    shade-ink 1 c.args.item.now t c.args.cut c.green_shade.result c.image_mix.result
    (λ px py. green_at (buffer_row t.rows t.sample t.flip (if t.swap then px else py)))
    c.requires.texture c.green_shade.ensures.shade c.image_mix.ensures c.green_shade.ensures.values (λ px py. refl)
