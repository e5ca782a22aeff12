use Rattle.std.proofs.Common.{◌≡◌, ◌<◌, ◌∙◌, ap, subst, true, arith}
use Rattle.std.proofs.lemmas.Nat.{div_below}
use Rattle.flat_ink.specs.Areas.{has_pixel}
use Rattle.flat_tile.specs.Preparing.{AreTonesOf}
use Rattle.flat_tile.specs.Tiles.{x_at, y_at, channel_at, pixels_of, tile_area}
use Rattle.flat_ink.specs.declared.area.Area.{Area}
use Rattle.flat_tile.specs.declared.prepared_item.ItemChannels.{ItemChannels}
use Rattle.flat_tile.proofs.Fresh.{filled-over, tile-covered}
use Rattle.flat_tile.proofs.lemmas.Items.{tile-has-byte}
use Rattle.flat_tile.proofs.lemmas.Planes.{some-pixels}
use Rattle.flat_tile.proofs.Preparing.{wider-area}
use Rattle.flat_tile.proofs.chosen.fill_over.Goals as goal

pub returns : goal.returns
returns c = λ m small.
    let has : has_pixel (tile_area c.args.tile) (x_at c.args.tile m) (y_at c.args.tile m) ≡ true =
    tile-has-byte c.args.tile m c.requires.tile (some-pixels c.args.tile c.requires.tile) in
    let channel : channel_at c.args.tile m < 3 =
    div_below m (pixels_of c.args.tile) 3 (some-pixels c.args.tile c.requires.tile) (omega (arith, small, c.requires.size)) in
    filled-over (channel_at c.args.tile m) c.args.item.now c.args.it.now.mix c.args.it.now.area c.args.tones
    (has_pixel c.area.result (x_at c.args.tile m) (y_at c.args.tile m))
    (x_at c.args.tile m) (y_at c.args.tile m) _ _ _
    (ap (λ (area : Area). has_pixel area (x_at c.args.tile m) (y_at c.args.tile m)) c.area.ensures ∙ has)
    (wider-area c.args.it.now.area (tile_area c.args.tile) (x_at c.args.tile m) (y_at c.args.tile m) c.requires.covered has)
    (tile-covered c.args.item.now c.args.it.now c.args.tile (x_at c.args.tile m) (y_at c.args.tile m) c.requires.prepared c.requires.covered
    c.requires.tile has)
    (subst (λ (t : ItemChannels). AreTonesOf c.args.item.now c.args.it.now.mix c.args.it.now.area t) c.requires.tones c.requires.prepared.tones)
    channel (c.colour_over_black-colour.ensures (channel_at c.args.tile m) channel)
    (c.lay_fill.ensures m small)
