use Rattle.std.proofs.Common.{refl}
use Rattle.flat_tile.proofs.Preparing.{area-below, steps-paint}
use Rattle.flat_tile.proofs.prepared_item.tones_of_image.Goals as goal

pub steps_of-requires-clause-below : goal.steps_of-requires-clause-below
steps_of-requires-clause-below c = area-below c.args.item.now c.args.texture.now c.args.area c.requires.texture c.requires.item c.requires.area
    (c.if-not-is_window.ensures refl)

pub returns : goal.returns
returns c =
    steps-paint c.args.item.now c.args.texture.now c.args.area c.steps_of.result c.requires.texture c.requires.item c.requires.area
    (c.if-not-is_window.ensures refl) (c.if-not-is_plain.ensures refl)
    c.steps_of.ensures.red c.steps_of.ensures.rises c.steps_of.ensures.green c.steps_of.ensures.sinks c.steps_of.ensures.blue
