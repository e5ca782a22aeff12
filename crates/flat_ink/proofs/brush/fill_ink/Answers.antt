use Rattle.flat_ink.specs.declared.channel_ink.ChannelValues.TheVariants.{Even}
use Rattle.flat_ink.proofs.lemmas.Brushing.{even-ink}
use Rattle.flat_ink.proofs.brush.fill_ink.Goals as goal

pub returns : goal.returns
returns c = λ cut.
    even-ink c.args.c c.args.item.now c.args.rgba c.mix_for.result (record { shade = Even c.tone_of.result; mix = c.mix_for.result }) cut c.requires.fill
    c.mix_for.ensures
    (λ i. record { shade = Even (c.tone_of.ensures i); mix = c.mix_for.result })
