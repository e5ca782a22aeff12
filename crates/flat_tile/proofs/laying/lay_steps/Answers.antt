use Rattle.std.proofs.Common.{ℕ, ◌≡◌, ◌∙◌, ap, sym, subst, Bool, if◌then◌else◌, get_or}
use Rattle.flat_ink.specs.Areas.{has_pixel, IsInArea, IsWindow}
use Rattle.flat_ink.specs.Inks.{mixed}
use Rattle.flat_tile.specs.Preparing.{stamped, toned}
use Rattle.flat_tile.specs.Tiles.{x_at, y_at, channel_at, tile_area}
use Rattle.flat_ink.specs.declared.area.Area.{Area}
use Rattle.flat_ink.specs.declared.channel_ink.BlendRule.{BlendRule}
use Rattle.flat_ink.specs.declared.channel_ink.BlendRule.TheVariants.{Replace}
use Rattle.flat_tile.specs.declared.prepared_item.ItemChannels.{ItemChannels}
use Rattle.flat_tile.specs.declared.prepared_item.ItemChannels.TheVariants.{Stepped}
use Rattle.flat_tile.proofs.Preparing.{where-it-holds}
use Rattle.flat_tile.proofs.laying.lay_steps.Goals as goal

pub stamp_tile-requires-clause-cut : goal.stamp_tile-requires-clause-cut
stamp_tile-requires-clause-cut c = subst (λ (a : Area). IsInArea (tile_area c.args.tile) a) (sym c.stamp_of.ensures.cut) c.requires.cut

pub stamp_tile-requires-clause-some : goal.stamp_tile-requires-clause-some
stamp_tile-requires-clause-some c = subst (λ (a : Area). IsWindow a) (sym c.stamp_of.ensures.cut) c.requires.some

pub returns-in-Replace : goal.returns-in-Replace
returns-in-Replace c = λ m small.
    let px : ℕ = x_at c.args.tile m in
    let py : ℕ = y_at c.args.tile m in
    let n : ℕ = channel_at c.args.tile m in
    let area : Area = c.args.it.now.area in
    let has : Bool = has_pixel c.args.cut px py in
    let old : ℕ = get_or c.args.bytes.now m 0 in
    let now : ℕ = get_or c.stamp_tile.new.bytes m 0 in
    subst (λ (mix : BlendRule). now ≡ (if has then mixed mix (toned area c.args.it.now.tones n px py) old else old)) (sym c.in-Replace.is)
    (subst (λ (t : ItemChannels). now ≡ (if has then mixed Replace (toned area t n px py) old else old)) (sym c.requires.steps)
    (where-it-holds has Replace (stamped c.stamp_of.result n px py) (toned area (Stepped c.args.steps) n px py) old now (c.stamp_of.ensures.values n px py)
    (c.stamp_tile.ensures m small ∙ ap (λ (a : Area). if has_pixel a px py then stamped c.stamp_of.result n px py else old) c.stamp_of.ensures.cut)))
