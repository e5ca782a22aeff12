-- Rectangles repainted one after another.
use Rattle.std.proofs.Common.{ℕ, ◌+◌, ◌<◌, ◌≡◌, ◌^◌, ◌/◌, ◌%◌, refl, ap, ◌∙◌, sym, Bool, true, false, ◌||◌, if◌then◌else◌, List, [], ◌∷◌, ◌++◌, length, get_or}
use Rattle.std.proofs.Common.{take, arith}
use Rattle.std.specs.List.{list_any}
use Rattle.std.proofs.lemmas.List.{take_more}
use Rattle.std.proofs.lemmas.Nat.{mod_below, div_below}
use Rattle.flat_base.specs.declared.shapes.Rect.{Rect}
use Rattle.flat_geom.specs.Rectangles.{has_point}
use Rattle.flat_scene.specs.declared.frames.DrawItem.{DrawItem}
use Rattle.flat_ink.specs.Areas.{has_pixel}
use Rattle.flat_render.specs.Damaged.{is_in_any}
use Rattle.flat_ink.specs.Pixels.{centre}
use Rattle.flat_tile.specs.Tiles.{x_at, y_at, pixels_of, IsTile}
use Rattle.flat_render.specs.Grids.{tile_of, tile_bytes, tile_count, grid_bytes, IsGrid}
use Rattle.flat_render.specs.Stored.{stored_x, stored_y, drawn_at}
use Rattle.flat_ink.specs.declared.area.Area.{Area}
use Rattle.flat_render.specs.declared.tile_grid.TileGrid.{TileGrid}
use Rattle.flat_tile.specs.declared.tile.Tile.{Tile}
use Rattle.flat_render.proofs.Chunks.{redrawn}
use Rattle.flat_render.proofs.Places.{tile-is, some-pixel, some-byte}

-- the pixels of a tile are not too far out
x-small : (t : Tile) (m : ℕ) → IsTile t → x_at t m < 2 ^ 29
x-small t m is = omega (arith, mod_below (m % pixels_of t) t.width is.width, is.right)

y-small : (t : Tile) (m : ℕ) → IsTile t → 0 < pixels_of t → y_at t m < 2 ^ 29
y-small t m is some =
    let inner : m % pixels_of t < pixels_of t = mod_below m (pixels_of t) some in
    omega (arith, div_below (m % pixels_of t) t.width t.height is.width (omega (arith, inner)), is.bottom)

tile-of-stored : (g : TileGrid) (i : ℕ) → IsGrid g → i < grid_bytes g → IsTile (tile_of g (i / tile_bytes g))
tile-of-stored g i is small = tile-is g (i / tile_bytes g) is (div_below i (tile_bytes g) (tile_count g) (some-byte g is) small)

pub stored-x-small : (g : TileGrid) (i : ℕ) → IsGrid g → i < grid_bytes g → stored_x g i < 2 ^ 29
stored-x-small g i is small = x-small (tile_of g (i / tile_bytes g)) (i % tile_bytes g) (tile-of-stored g i is small)

pub stored-y-small : (g : TileGrid) (i : ℕ) → IsGrid g → i < grid_bytes g → stored_y g i < 2 ^ 29
stored-y-small g i is small = y-small (tile_of g (i / tile_bytes g)) (i % tile_bytes g) (tile-of-stored g i is small) (some-pixel g is)

any-snoc : {X : Type 0} (p : X → Bool) (xs : List X) (x : X) → list_any p (xs ++ x ∷ []) ≡ (list_any p xs || p x)
any-snoc p [] x = or-false (p x) where
  or-false : (b : Bool) → (b || false) ≡ b
  or-false true = refl
  or-false false = refl
any-snoc p (y ∷ ys) x = ap (λ (b : Bool). p y || b) (any-snoc p ys x) ∙ or-assoc (p y) (list_any p ys) (p x) where
  or-assoc : (a b c : Bool) → (a || (b || c)) ≡ ((a || b) || c)
  or-assoc true b c = refl
  or-assoc false b c = refl

-- one rectangle more
in-any-more : (rects : List Rect) (i : ℕ) (d : Rect) (px py : ℕ) → i < length rects
    → is_in_any (take (i + 1) rects) px py ≡ (is_in_any (take i rects) px py || has_point (get_or rects i d) (centre px) (centre py))
in-any-more rects i d px py within =
    ap (λ (rs : List Rect). is_in_any rs px py) (take_more rects i d within)
    ∙ any-snoc (λ r. has_point r (centre px) (centre py)) (take i rects) (get_or rects i d)

either-test : (a b : Bool) (p o : ℕ) → (if b then p else (if a then p else o)) ≡ (if (a || b) then p else o)
either-test true true p o = refl
either-test true false p o = refl
either-test false true p o = refl
either-test false false p o = refl

pub rect-step : (items : List DrawItem) (g : TileGrid) (rects : List Rect) (j : ℕ) (d : Rect) (area : Area) (old bytes later : List ℕ) → IsGrid g
    → j < length rects
    → length old ≡ grid_bytes g → length bytes ≡ length old
    → ((px py : ℕ) → px < 2 ^ 29 → py < 2 ^ 29 → has_pixel area px py ≡ has_point (get_or rects j d) (centre px) (centre py))
    → ((i : ℕ) → i < length old → get_or bytes i 0 ≡ redrawn items g (is_in_any (take j rects)) i (get_or old i 0))
    → ((i : ℕ) → i < length bytes → get_or later i 0 ≡ redrawn items g (has_pixel area) i (get_or bytes i 0))
    → (i : ℕ) → i < length old → get_or later i 0 ≡ redrawn items g (is_in_any (take (j + 1) rects)) i (get_or old i 0)
rect-step items g rects j d area old bytes later is within size same tests so_far drawn i small =
    let px : ℕ = stored_x g i in
    let py : ℕ = stored_y g i in
    let p : ℕ = drawn_at g items i in
    let there : i < grid_bytes g = omega (arith, size) in
    drawn i (omega arith)
    ∙ ap (λ (b : Bool). if b then p else get_or bytes i 0) (tests px py (stored-x-small g i is there) (stored-y-small g i is there))
    ∙ ap (λ (o : ℕ). if has_point (get_or rects j d) (centre px) (centre py) then p else o) (so_far i small)
    ∙ either-test (is_in_any (take j rects) px py) (has_point (get_or rects j d) (centre px) (centre py)) p (get_or old i 0)
    ∙ ap (λ (b : Bool). if b then p else get_or old i 0) (sym (in-any-more rects j d px py within))
