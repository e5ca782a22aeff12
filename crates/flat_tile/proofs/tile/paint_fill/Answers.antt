use Rattle.std.proofs.Common.{◌<◌, length, arith}
use Rattle.flat_tile.specs.Tiles.{x_at, y_at}
use Rattle.flat_tile.proofs.lemmas.Planes.{inked-item}
use Rattle.flat_tile.proofs.tile.paint_fill.Goals as goal

pub returns : goal.returns
returns c = λ m small.
    let first : m < length c.ink_channel.new.bytes = omega (arith, c.ink_channel.auto.bytes) in
    let second : m < length c.ink_channel-2.new.bytes = omega (arith, c.ink_channel-2.auto.bytes) in
    inked-item c.args.tile c.args.cut c.args.item.now m c.fill_ink.result c.fill_ink-2.result c.fill_ink-3.result _ _ _ _ c.requires.tile
    (omega (arith, c.requires.size))
    (c.fill_ink.ensures c.args.cut) (c.fill_ink-2.ensures c.args.cut) (c.fill_ink-3.ensures c.args.cut)
    (c.requires.covered (x_at c.args.tile m) (y_at c.args.tile m))
    (c.ink_channel.ensures.there m small) (c.ink_channel.ensures.others m small)
    (c.ink_channel-2.ensures.there m first) (c.ink_channel-2.ensures.others m first)
    (c.ink_channel-3.ensures.there m second) (c.ink_channel-3.ensures.others m second)
