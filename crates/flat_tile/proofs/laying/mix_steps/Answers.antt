use Rattle.std.proofs.Common.{ℕ, ◌<◌, ◌≡◌, ◌∙◌, Bool, List, ap, sym, subst, if◌then◌else◌, get_or, length, arith}
use Rattle.flat_ink.specs.Areas.{has_pixel}
use Rattle.flat_ink.specs.Inks.{mixed}
use Rattle.flat_tile.specs.Preparing.{toned}
use Rattle.flat_ink.specs.Textures.{stride_of}
use Rattle.flat_tile.specs.Tiles.{x_at, y_at, channel_at, pixels_of}
use Rattle.flat_ink.specs.declared.area.Area.{Area}
use Rattle.flat_tile.specs.declared.prepared_item.ItemChannels.{ItemChannels}
use Rattle.flat_tile.specs.declared.prepared_item.ItemChannels.TheVariants.{Stepped}
use Rattle.flat_tile.proofs.lemmas.Planes.{some-pixels}
use Rattle.flat_tile.proofs.Preparing.{by-channels, table-step, where-it-holds}
use Rattle.flat_ink.proofs.lemmas.Windows.{pixel-left, pixel-right, pixel-top, pixel-bottom}
use Rattle.flat_tile.proofs.laying.mix_steps.Goals as goal

pub returns : goal.returns
returns c = λ m small.
    let first : m < length c.lay_across.new.bytes = omega (arith, c.lay_across.auto.bytes) in
    let second : m < length c.lay_down.new.bytes = omega (arith, c.lay_down.auto.bytes) in
    let px : ℕ = x_at c.args.tile m in
    let py : ℕ = y_at c.args.tile m in
    let cut : Area = c.args.cut in
    let area : Area = c.args.it.now.area in
    let has : Bool = has_pixel cut px py in
    subst (λ (t : ItemChannels). get_or c.lay_even.new.bytes m 0
    ≡ (if has then mixed c.args.it.now.mix (toned area t (channel_at c.args.tile m) px py) (get_or c.args.bytes.now m 0) else get_or c.args.bytes.now m 0))
    (sym c.requires.steps)
    (by-channels (pixels_of c.args.tile) m has (λ n old. mixed c.args.it.now.mix (toned area (Stepped c.args.steps) n px py) old) _ _ _ _
    (some-pixels c.args.tile c.requires.tile) (omega (arith, c.requires.size))
    (λ e. where-it-holds has c.args.it.now.mix _ _ _ _
    (λ h. table-step c.args.steps.red (stride_of c.args.steps.rises) area.x0 cut.x0 px _
    (λ i few. ap (λ (xs : List ℕ). get_or xs i 0) c.as_slice.ensures ∙ c.steps_from-reds.ensures.values i few) c.requires.covered.x0
    (pixel-left cut px py h)
    (omega (arith, pixel-right cut px py h, c.requires.cut.x0, c.requires.cut.x1, c.requires.tile.narrow))) (c.lay_across.ensures.there m small e))
    (c.lay_across.ensures.others m small)
    (λ e. where-it-holds has c.args.it.now.mix _ _ _ _
    (λ h. table-step c.args.steps.green (stride_of c.args.steps.sinks) area.y0 cut.y0 py _
    (λ i few. ap (λ (xs : List ℕ). get_or xs i 0) c.as_slice-2.ensures ∙ c.steps_from-greens.ensures.values i few) c.requires.covered.y0
    (pixel-top cut px py h)
    (omega (arith, pixel-bottom cut px py h, c.requires.cut.y0, c.requires.cut.y1, c.requires.tile.low))) (c.lay_down.ensures.there m first e))
    (c.lay_down.ensures.others m first)
    (c.lay_even.ensures.there m second) (c.lay_even.ensures.others m second))
