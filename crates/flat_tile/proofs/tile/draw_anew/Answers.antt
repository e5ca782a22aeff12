use Rattle.std.proofs.lemmas.List.Elements.{All-drop, All-take}
use Rattle.flat_drawable.specs.Drawable.{IsDrawable}
use Rattle.std.proofs.Common.{ℕ, ◌≡◌, ◌<◌, ◌-◌, ◌∙◌, ◌&&◌, Bool, if◌then◌else◌, List, length, length-drop, take, drop, get_or, sym, ap, arith}
use Rattle.std.proofs.lemmas.List.{take_all}
use Rattle.flat_scene.specs.declared.frames.DrawItem.{DrawItem}
use Rattle.flat_ink.specs.Areas.{has_pixel}
use Rattle.flat_ink.specs.Channels.{channel_after}
use Rattle.flat_tile.specs.Tiles.{x_at, y_at, channel_at}
use Rattle.flat_ink.specs.declared.area.Area.{Area}
use Rattle.flat_tile.proofs.Cuts.{no-columns, no-rows}
use Rattle.flat_tile.proofs.lemmas.Items.{tile-window, drawn-anew}
use Rattle.flat_tile.proofs.lemmas.Planes.{some-pixels}
use Rattle.flat_tile.proofs.tile.draw_anew.Goals as goal

pub returns-then-cut : goal.returns-then-cut
returns-then-cut c = λ m small.
    let px : ℕ = x_at c.args.tile m in
    let py : ℕ = y_at c.args.tile m in
    let old : ℕ = get_or c.args.bytes.now m 0 in
    let same : has_pixel c.common-cut.result px py ≡ has_pixel c.args.window px py =
    tile-window c.args.tile c.args.window c.common-cut.result m c.requires.tile (some-pixels c.args.tile c.requires.tile)
    (λ x y. c.common-cut.ensures.pixels x y ∙ ap (λ (a : Area). has_pixel c.args.window x y && has_pixel a x y) c.area.ensures) in
    sym (ap (λ (b : Bool). if b then channel_after (channel_at c.args.tile m) c.args.items.now px py 0 else old)
    (sym same ∙ no-columns c.common-cut.result px py c.if-cut.true))

pub returns-then-cut-2 : goal.returns-then-cut-2
returns-then-cut-2 c = λ m small.
    let px : ℕ = x_at c.args.tile m in
    let py : ℕ = y_at c.args.tile m in
    let old : ℕ = get_or c.args.bytes.now m 0 in
    let same : has_pixel c.common-cut.result px py ≡ has_pixel c.args.window px py =
    tile-window c.args.tile c.args.window c.common-cut.result m c.requires.tile (some-pixels c.args.tile c.requires.tile)
    (λ x y. c.common-cut.ensures.pixels x y ∙ ap (λ (a : Area). has_pixel c.args.window x y && has_pixel a x y) c.area.ensures) in
    sym (ap (λ (b : Bool). if b then channel_after (channel_at c.args.tile m) c.args.items.now px py 0 else old)
    (sym same ∙ no-rows c.common-cut.result px py c.if-cut-2.true))

pub returns : goal.returns
returns c = λ m small.
    let px : ℕ = x_at c.args.tile m in
    let py : ℕ = y_at c.args.tile m in
    let old : ℕ = get_or c.args.bytes.now m 0 in
    let same : has_pixel c.common-cut.result px py ≡ has_pixel c.args.window px py =
    tile-window c.args.tile c.args.window c.common-cut.result m c.requires.tile (some-pixels c.args.tile c.requires.tile)
    (λ x y. c.common-cut.ensures.pixels x y ∙ ap (λ (a : Area). has_pixel c.args.window x y && has_pixel a x y) c.area.ensures) in
    let black : ℕ = get_or c.blacken.new.bytes m 0 in
    let first : ℕ = c.first_seen-first.result in
    let rest : take (length c.args.items.now - first) (drop first c.args.items.now) ≡ drop first c.args.items.now =
    take_all (length c.args.items.now - first) (drop first c.args.items.now) (omega (arith, length-drop first c.args.items.now)) in
    let there : m < length c.blacken.new.bytes = omega (arith, c.blacken.auto.bytes) in
    drawn-anew (channel_at c.args.tile m) c.args.items.now first (has_pixel c.common-cut.result px py) (has_pixel c.args.window px py) px py old
    black (get_or c.paint_all.new.bytes m 0) same
    (c.first_seen-first.ensures.same (channel_at c.args.tile m) px py) (c.blacken.ensures m small)
    (c.paint_all.ensures m there ∙ ap (λ (items : List DrawItem). if has_pixel c.common-cut.result px py then
    channel_after (channel_at c.args.tile m) items px py black else black) rest)

pub paint_all-requires-clause-items : goal.paint_all-requires-clause-items
paint_all-requires-clause-items c = All-take IsDrawable _ _ (All-drop IsDrawable c.first_seen-first.result c.args.items.now c.requires.items)
