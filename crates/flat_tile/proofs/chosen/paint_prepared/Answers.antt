use Rattle.std.proofs.Common.{◌≡◌, subst, if◌then◌else◌, get_or, arith}
use Rattle.std.proofs.lemmas.Nat.{div_below}
use Rattle.flat_ink.specs.Areas.{has_pixel}
use Rattle.flat_ink.specs.Inks.{mixed}
use Rattle.flat_tile.specs.Preparing.{toned, AreTonesOf}
use Rattle.flat_tile.specs.Tiles.{x_at, y_at, channel_at, pixels_of}
use Rattle.flat_tile.specs.declared.prepared_item.ItemChannels.{ItemChannels}
use Rattle.flat_tile.specs.declared.prepared_item.ItemChannels.TheVariants.{Even, Stepped}
use Rattle.flat_tile.proofs.lemmas.Planes.{some-pixels}
use Rattle.flat_tile.proofs.Preparing.{toned-step}
use Rattle.flat_tile.proofs.chosen.paint_prepared.Goals as goal

pub returns-in-Even : goal.returns-in-Even
returns-in-Even c = λ m small.
    toned-step c.args.item.now c.args.it.now.mix c.args.it.now.area c.args.window c.common-cut.result (Even c.in-Even.tones) (channel_at c.args.tile m)
    (x_at c.args.tile m) (y_at c.args.tile m)
    (get_or c.args.bytes.now m 0) (get_or c.lay_fill.new.bytes m 0) c.requires.prepared.area
    (subst (λ (t : ItemChannels). AreTonesOf c.args.item.now c.args.it.now.mix c.args.it.now.area t) c.in-Even.is c.requires.prepared.tones) c.requires.some
    c.common-cut.ensures.pixels (div_below m (pixels_of c.args.tile) 3 (some-pixels c.args.tile c.requires.tile) (omega (arith, c.requires.size)))
    (c.lay_fill.ensures m small)

pub returns-in-Stepped : goal.returns-in-Stepped
returns-in-Stepped c = λ m small.
    toned-step c.args.item.now c.args.it.now.mix c.args.it.now.area c.args.window c.common-cut.result (Stepped c.in-Stepped.steps) (channel_at c.args.tile m)
    (x_at c.args.tile m) (y_at c.args.tile m)
    (get_or c.args.bytes.now m 0) (get_or c.lay_steps.new.bytes m 0) c.requires.prepared.area
    (subst (λ (t : ItemChannels). AreTonesOf c.args.item.now c.args.it.now.mix c.args.it.now.area t) c.in-Stepped.is c.requires.prepared.tones) c.requires.some
    c.common-cut.ensures.pixels (div_below m (pixels_of c.args.tile) 3 (some-pixels c.args.tile c.requires.tile) (omega (arith, c.requires.size)))
    (subst (λ (t : ItemChannels). get_or c.lay_steps.new.bytes m 0
    ≡ (if has_pixel c.common-cut.result (x_at c.args.tile m) (y_at c.args.tile m) then
    mixed c.args.it.now.mix (toned c.args.it.now.area t (channel_at c.args.tile m) (x_at c.args.tile m) (y_at c.args.tile m)) (get_or c.args.bytes.now m 0)
    else get_or c.args.bytes.now m 0))
    c.in-Stepped.is (c.lay_steps.ensures m small))
