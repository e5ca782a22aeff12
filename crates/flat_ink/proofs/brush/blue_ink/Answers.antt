use Rattle.std.proofs.Common.{refl}
use Rattle.flat_ink.specs.Colours.{blue_at}
use Rattle.flat_ink.specs.declared.channel_ink.ChannelValues.TheVariants.{Even}
use Rattle.flat_ink.specs.declared.texture.Texture.{Texture}
use Rattle.flat_ink.proofs.lemmas.Brushing.{shade-ink}
use Rattle.flat_ink.proofs.brush.blue_ink.Goals as goal

pub returns : goal.returns
returns c = λ cut.
    let t : Texture = c.args.texture.now in
    shade-ink 2 c.args.item.now t cut (Even c.blue_of.result) c.image_mix.result (λ px py. blue_at t.buffers)
    c.requires.texture tt c.image_mix.ensures (λ px py has. c.blue_of.ensures) (λ px py. refl)
