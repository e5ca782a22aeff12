use Rattle.std.proofs.Common.{ℕ, ◌<◌, ◌^◌, ◌∙◌, get_or, refl, sym, arith}
use Rattle.flat_base.proofs.lemmas.Tests.{and-left}
use Rattle.flat_ink.specs.Areas.{has_pixel}
use Rattle.flat_ink.specs.Channels.{channel_painted}
use Rattle.flat_ink.specs.Pixels.{covers}
use Rattle.flat_tile.specs.Tiles.{x_at, y_at, channel_at}
use Rattle.flat_tile.proofs.Cuts.{cut-painted, cut-missed, none-painted, no-columns, no-rows}
use Rattle.flat_ink.proofs.lemmas.Windows.{pixel-right, pixel-bottom}
use Rattle.flat_tile.proofs.tile.paint_item.Goals as goal

pub paint_cut-requires-clause-covered : goal.paint_cut-requires-clause-covered
paint_cut-requires-clause-covered c = λ px py has.
    let cut = c.common-cut.result in
    let right : px < 2 ^ 29 = omega (arith, pixel-right cut px py has, c.common-cut.ensures.within.x1, c.requires.some.right) in
    let bottom : py < 2 ^ 29 = omega (arith, pixel-bottom cut px py has, c.common-cut.ensures.within.y1, c.requires.some.bottom) in
    sym (c.area_of.ensures px py right bottom) ∙ and-left _ (has_pixel c.args.window px py) (sym (c.common-cut.ensures.pixels px py) ∙ has)

pub returns-then-is_missed : goal.returns-then-is_missed
returns-then-is_missed c = λ m small.
    let px : ℕ = x_at c.args.tile m in
    let py : ℕ = y_at c.args.tile m in
    let old : ℕ = get_or c.args.bytes.now m 0 in
    cut-missed (has_pixel c.args.window px py) (covers c.args.item.now px py) (channel_painted (channel_at c.args.tile m) c.args.item.now px py old) old
    (c.if-is_missed.ensures refl px py)

pub returns-then-cut : goal.returns-then-cut
returns-then-cut c = λ m small.
    let px : ℕ = x_at c.args.tile m in
    let py : ℕ = y_at c.args.tile m in
    let old : ℕ = get_or c.args.bytes.now m 0 in
    none-painted (has_pixel c.common-cut.result px py) (has_pixel c.area_of.result px py) (has_pixel c.args.window px py) (covers c.args.item.now px py)
    (channel_painted (channel_at c.args.tile m) c.args.item.now px py old) old
    (c.common-cut.ensures.pixels px py)
    (λ has. c.area_of.ensures px py (omega (arith, pixel-right c.args.window px py has, c.requires.some.right))
    (omega (arith, pixel-bottom c.args.window px py has, c.requires.some.bottom)))
    (no-columns c.common-cut.result px py c.if-cut.true)

pub returns-then-cut-2 : goal.returns-then-cut-2
returns-then-cut-2 c = λ m small.
    let px : ℕ = x_at c.args.tile m in
    let py : ℕ = y_at c.args.tile m in
    let old : ℕ = get_or c.args.bytes.now m 0 in
    none-painted (has_pixel c.common-cut.result px py) (has_pixel c.area_of.result px py) (has_pixel c.args.window px py) (covers c.args.item.now px py)
    (channel_painted (channel_at c.args.tile m) c.args.item.now px py old) old
    (c.common-cut.ensures.pixels px py)
    (λ has. c.area_of.ensures px py (omega (arith, pixel-right c.args.window px py has, c.requires.some.right))
    (omega (arith, pixel-bottom c.args.window px py has, c.requires.some.bottom)))
    (no-rows c.common-cut.result px py c.if-cut-2.true)

pub returns : goal.returns
returns c = λ m small.
    let px : ℕ = x_at c.args.tile m in
    let py : ℕ = y_at c.args.tile m in
    let old : ℕ = get_or c.args.bytes.now m 0 in
    cut-painted (has_pixel c.common-cut.result px py) (has_pixel c.area_of.result px py) (has_pixel c.args.window px py) (covers c.args.item.now px py)
    (channel_painted (channel_at c.args.tile m) c.args.item.now px py old) old (get_or c.paint_cut.new.bytes m 0)
    (c.common-cut.ensures.pixels px py)
    (λ has. c.area_of.ensures px py (omega (arith, pixel-right c.args.window px py has, c.requires.some.right))
    (omega (arith, pixel-bottom c.args.window px py has, c.requires.some.bottom)))
    (c.paint_cut.ensures m small)
