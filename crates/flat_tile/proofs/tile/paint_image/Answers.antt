use Rattle.std.proofs.Common.{◌<◌, length, arith}
use Rattle.flat_tile.specs.Tiles.{x_at, y_at}
use Rattle.flat_ink.proofs.lemmas.Brushing.{texture-sample}
use Rattle.flat_ink.proofs.lemmas.Covered.{texture-below}
use Rattle.flat_tile.proofs.lemmas.Planes.{inked-item}
use Rattle.flat_tile.proofs.tile.paint_image.Goals as goal

pub red_ink-requires-clause-sample : goal.red_ink-requires-clause-sample
red_ink-requires-clause-sample c = texture-sample c.args.item.now c.args.texture.now c.requires.texture c.requires.item

pub red_ink-requires-clause-below : goal.red_ink-requires-clause-below
red_ink-requires-clause-below c = texture-below c.args.item.now c.args.texture.now c.args.cut c.requires.texture c.requires.item c.requires.some.columns
    c.requires.some.rows c.requires.covered

pub green_ink-requires-clause-sample : goal.green_ink-requires-clause-sample
green_ink-requires-clause-sample c = texture-sample c.args.item.now c.args.texture.now c.requires.texture c.requires.item

pub green_ink-requires-clause-below : goal.green_ink-requires-clause-below
green_ink-requires-clause-below c = texture-below c.args.item.now c.args.texture.now c.args.cut c.requires.texture c.requires.item c.requires.some.columns
    c.requires.some.rows c.requires.covered

pub returns : goal.returns
returns c = λ m small.
    let first : m < length c.ink_channel.new.bytes = omega (arith, c.ink_channel.auto.bytes) in
    let second : m < length c.ink_channel-2.new.bytes = omega (arith, c.ink_channel-2.auto.bytes) in
    inked-item c.args.tile c.args.cut c.args.item.now m c.red_ink.result c.green_ink.result c.blue_ink.result _ _ _ _ c.requires.tile
    (omega (arith, c.requires.size))
    c.red_ink.ensures c.green_ink.ensures (c.blue_ink.ensures c.args.cut) (c.requires.covered (x_at c.args.tile m) (y_at c.args.tile m))
    (c.ink_channel.ensures.there m small) (c.ink_channel.ensures.others m small)
    (c.ink_channel-2.ensures.there m first) (c.ink_channel-2.ensures.others m first)
    (c.ink_channel-3.ensures.there m second) (c.ink_channel-3.ensures.others m second)
