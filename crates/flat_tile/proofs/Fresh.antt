-- Tiles that their first item begins, from black.
use Rattle.std.proofs.Common.{ℕ, ◌+◌, ◌<◌, ◌≡◌, ap, ◌∙◌, sym, Bool, true, if◌then◌else◌, List, length, get_or, drop, arith}
use Rattle.std.specs.Prelude.{slice_index}
use Rattle.std.proofs.lemmas.List.{drop_more}
use Rattle.flat_scene.specs.declared.calls.BlendMode.TheVariants.{Src}
use Rattle.flat_scene.specs.declared.frames.DrawItem.{DrawItem}
use Rattle.flat_ink.specs.Areas.{has_pixel, IsInArea}
use Rattle.flat_ink.specs.Channels.{channel_after, channel_painted, channel_step}
use Rattle.flat_ink.specs.Inks.{mixed}
use Rattle.flat_ink.specs.Pixels.{covers}
use Rattle.flat_tile.specs.Preparing.{IsPrepared, Paints}
use Rattle.flat_tile.specs.Tiles.{tile_area, IsTile}
use Rattle.flat_ink.specs.declared.area.Area.{Area}
use Rattle.flat_ink.specs.declared.channel_ink.BlendRule.{BlendRule}
use Rattle.flat_tile.specs.declared.prepared_item.PreparedItem.{PreparedItem}
use Rattle.flat_tile.specs.declared.prepared_item.ItemChannels.TheVariants.{Even}
use Rattle.flat_tile.specs.declared.tile.Tile.{Tile}
use Rattle.flat_tile.proofs.CoveredUp.{step-anew}
use Rattle.flat_tile.proofs.Preparing.{wider-area}
use Rattle.flat_ink.proofs.lemmas.Windows.{pixel-right, pixel-bottom}

-- an item whose area has all of a tile covers each of its pixels
pub tile-covered : (item : DrawItem) (it : PreparedItem) (tile : Tile) (px py : ℕ) → IsPrepared item it → IsInArea it.area (tile_area tile) → IsTile tile
    → has_pixel (tile_area tile) px py ≡ true → covers item px py ≡ true
tile-covered item it tile px py is within are has =
    sym (is.area px py (omega (arith, pixel-right (tile_area tile) px py has, are.right)) (omega (arith, pixel-bottom (tile_area tile) px py has, are.bottom)))
    ∙ wider-area it.area (tile_area tile) px py within has

-- what replaces a pixel gives it what it gives black
pub drawn-over : (c : ℕ) (item : DrawItem) (b : Bool) (px py was now : ℕ) → b ≡ true → item.blend ≡ Src → covers item px py ≡ true
    → now ≡ (if b then channel_step c item px py was else was) → now ≡ channel_step c item px py 0
drawn-over c item b px py was now has replaces covered h =
    h ∙ ap (λ (t : Bool). if t then channel_step c item px py was else was) has ∙ step-anew c item px py was 0 replaces covered

-- on black, an item gives a pixel its step
pub drawn-on-black : (c : ℕ) (item : DrawItem) (b : Bool) (px py was now : ℕ) → b ≡ true → was ≡ 0
    → now ≡ (if b then channel_step c item px py was else was) → now ≡ channel_step c item px py 0
drawn-on-black c item b px py was now has black h =
    h ∙ ap (λ (t : Bool). if t then channel_step c item px py was else was) has ∙ ap (λ (o : ℕ). channel_step c item px py o) black

-- so does the colour that a fill makes of black
pub filled-over : (c : ℕ) (item : DrawItem) (mix : BlendRule) (area : Area) (tones : List ℕ) (b : Bool) (px py was now v : ℕ) → b ≡ true
    → has_pixel area px py ≡ true → covers item px py ≡ true → Paints item mix area (Even tones) → c < 3
    → v ≡ mixed mix (slice_index tones c) 0 → now ≡ (if b then v else was) → now ≡ channel_step c item px py 0
filled-over c item mix area tones b px py was now v has inside covered paints small is h =
    h ∙ ap (λ (t : Bool). if t then v else was) has ∙ is ∙ paints c px py 0 small inside
    ∙ sym (ap (λ (t : Bool). if t then channel_painted c item px py 0 else 0) covered)

-- the first item that is seen begins a pixel, and the others follow
pub begun : (c : ℕ) (items : List DrawItem) (first : ℕ) (d : DrawItem) (b : Bool) (px py was now : ℕ) → b ≡ true → first < length items
    → channel_after c items px py 0 ≡ channel_after c (drop first items) px py 0
    → was ≡ channel_step c (get_or items first d) px py 0
    → now ≡ (if b then channel_after c (drop (first + 1) items) px py was else was) → now ≡ channel_after c items px py 0
begun c items first d b px py was now has within same is h =
    h ∙ ap (λ (t : Bool). if t then channel_after c (drop (first + 1) items) px py was else was) has
    ∙ ap (λ (o : ℕ). channel_after c (drop (first + 1) items) px py o) is
    ∙ sym (ap (λ (xs : List DrawItem). channel_after c xs px py 0) (drop_more items first d within))
    ∙ sym same
