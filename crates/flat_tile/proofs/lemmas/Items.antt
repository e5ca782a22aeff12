-- Items drawn one after another.
use Rattle.std.proofs.Common.{ℕ, ◌+◌, ◌*◌, ◌/◌, ◌%◌, ◌<◌, ◌≤◌, ◌≡◌, refl, ap, ◌∙◌, sym, Bool, true, false, ◌&&◌, if◌then◌else◌, List, [], ◌∷◌, length, get_or}
use Rattle.std.proofs.Common.{take, drop, arith}
use Rattle.std.proofs.lemmas.List.{take_more, take_all}
use Rattle.std.proofs.lemmas.Grind.{fold-append}
use Rattle.std.proofs.lemmas.Nat.{div_below, mod_below}
use Rattle.flat_base.proofs.lemmas.Tests.{and-true}
use Rattle.flat_scene.specs.declared.frames.DrawItem.{DrawItem}
use Rattle.flat_ink.specs.Areas.{has_pixel}
use Rattle.flat_ink.specs.Channels.{channel_step, channel_after}
use Rattle.flat_tile.specs.Tiles.{x_of, y_of, x_at, y_at, channel_at, pixels_of, tile_area, IsTile}
use Rattle.flat_ink.specs.declared.area.Area.{Area}
use Rattle.flat_tile.specs.declared.tile.Tile.{Tile}
use Rattle.flat_ink.proofs.lemmas.Ranges.{among}

-- the channels of the pixels of a window are changed by f, and the others are as they were
abbrev pub IsDrawnIn : (ℕ → ℕ → ℕ → ℕ → ℕ) → Tile → Area → List ℕ → List ℕ → Type 0
IsDrawnIn f tile window old bytes = (m : ℕ) → m < length old
    → get_or bytes m 0 ≡ (if has_pixel window (x_at tile m) (y_at tile m) then f (channel_at tile m) (x_at tile m) (y_at tile m) (get_or old m 0) else
    get_or old m 0)

-- one item more
pub after-more : (c : ℕ) (items : List DrawItem) (i : ℕ) (d : DrawItem) (px py was : ℕ) → i < length items
    → channel_after c (take (i + 1) items) px py was ≡ channel_step c (get_or items i d) px py (channel_after c (take i items) px py was)
after-more c items i d px py was within =
    ap (λ (xs : List DrawItem). channel_after c xs px py was) (take_more items i d within)
    ∙ fold-append (λ old it. channel_step c it px py old) was (take i items) (get_or items i d ∷ [])

-- a step where a test holds, and none where it doesn't
by-test : (b : Bool) (f : ℕ → ℕ) (p q x y o : ℕ) → p ≡ (if b then x else o) → q ≡ (if b then f p else p) → y ≡ f x → q ≡ (if b then y else o)
by-test true f p q x y o e h k = h ∙ ap f e ∙ sym k
by-test false f p q x y o e h k = h ∙ e

pub item-step : (items : List DrawItem) (i : ℕ) (d : DrawItem) (tile : Tile) (window : Area) (old bytes later : List ℕ)
    → i < length items → length bytes ≡ length old
    → IsDrawnIn (λ c px py was. channel_after c (take i items) px py was) tile window old bytes
    → IsDrawnIn (λ c px py was. channel_step c (get_or items i d) px py was) tile window bytes later
    → IsDrawnIn (λ c px py was. channel_after c (take (i + 1) items) px py was) tile window old later
item-step items i d tile window old bytes later within same so_far drawn = λ m small.
    by-test (has_pixel window (x_at tile m) (y_at tile m)) (channel_step (channel_at tile m) (get_or items i d) (x_at tile m) (y_at tile m)) (get_or bytes m 0)
    (get_or later m 0)
    (channel_after (channel_at tile m) (take i items) (x_at tile m) (y_at tile m) (get_or old m 0))
    (channel_after (channel_at tile m) (take (i + 1) items) (x_at tile m) (y_at tile m) (get_or old m 0)) (get_or old m 0)
    (so_far m small) (drawn m (omega arith)) (after-more (channel_at tile m) items i d (x_at tile m) (y_at tile m) (get_or old m 0) within)

-- after the last one
pub items-all : (items : List DrawItem) (n : ℕ) (tile : Tile) (window : Area) (old bytes : List ℕ) → length items ≤ n
    → IsDrawnIn (λ c px py was. channel_after c (take n items) px py was) tile window old bytes
    → IsDrawnIn (λ c px py was. channel_after c items px py was) tile window old bytes
items-all items n tile window old bytes past drawn = λ m small.
    drawn m small
    ∙ ap (λ (xs : List DrawItem). if has_pixel window (x_at tile m) (y_at tile m) then
    channel_after (channel_at tile m) xs (x_at tile m) (y_at tile m) (get_or old m 0) else get_or old m 0)
    (take_all n items past)

-- each pixel of a tile is in its area
tile-has : (tile : Tile) (k : ℕ) → 0 < tile.width → k < tile.width * tile.height → has_pixel (tile_area tile) (x_of tile k) (y_of tile k) ≡ true
tile-has tile k wide small =
    let x : k % tile.width < tile.width = mod_below k tile.width wide in
    let y : k / tile.width < tile.height = div_below k tile.width tile.height wide (omega arith) in
    and-true (among tile.left (tile.left + tile.width) (x_of tile k) (omega arith) (omega arith))
    (among tile.top (tile.top + tile.height) (y_of tile k) (omega arith) (omega arith))

pub tile-has-byte : (tile : Tile) (m : ℕ) → IsTile tile → 0 < pixels_of tile → has_pixel (tile_area tile) (x_at tile m) (y_at tile m) ≡ true
tile-has-byte tile m is some = tile-has tile (m % pixels_of tile) is.width (mod_below m (pixels_of tile) some)

and-true-right : (a b : Bool) → b ≡ true → (a && b) ≡ a
and-true-right true b h = h
and-true-right false b h = refl

-- a window, cut to a tile, has the same pixels of it
pub tile-window : (tile : Tile) (window cut : Area) (m : ℕ) → IsTile tile → 0 < pixels_of tile
    → ((px py : ℕ) → has_pixel cut px py ≡ (has_pixel window px py && has_pixel (tile_area tile) px py))
    → has_pixel cut (x_at tile m) (y_at tile m) ≡ has_pixel window (x_at tile m) (y_at tile m)
tile-window tile window cut m is some both =
    both (x_at tile m) (y_at tile m) ∙ and-true-right _ _ (tile-has-byte tile m is some)

-- drawn anew where a test holds
pub drawn-anew : (c : ℕ) (items : List DrawItem) (first : ℕ) (b t : Bool) (px py was blackened now : ℕ) → b ≡ t
    → (b ≡ true → channel_after c items px py 0 ≡ channel_after c (drop first items) px py 0)
    → blackened ≡ (if b then 0 else was)
    → now ≡ (if b then channel_after c (drop first items) px py blackened else blackened)
    → now ≡ (if t then channel_after c items px py 0 else was)
drawn-anew c items first true true px py was blackened now e same black h =
    h ∙ ap (λ (o : ℕ). channel_after c (drop first items) px py o) black ∙ sym (same refl)
drawn-anew c items first false false px py was blackened now e same black h = h ∙ black
drawn-anew c items first true false px py was blackened now e same black h = absurd (cc)
drawn-anew c items first false true px py was blackened now e same black h = absurd (cc)
