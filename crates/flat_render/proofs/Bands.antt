-- Rows of tiles, drawn by the items that are seen there.
use Rattle.std.proofs.Common.{ℕ, ◌+◌, ◌*◌, ◌/◌, ◌^◌, ◌<◌, ◌≤◌, ◌≡◌, refl, ap, ◌∙◌, sym, true, false, List, [], ◌∷◌, ◌++◌, length, get_or, take, arith}
use Rattle.std.proofs.lemmas.List.Elements.{All-nil, All-cons, All-append}
use Rattle.std.proofs.lemmas.Grind.{fold-append}
use Rattle.std.proofs.lemmas.Nat.{div-mul-add, mod-mul-add, mul-add-lt, mul-le, row_fits}
use Rattle.flat_drawable.specs.Drawable.{IsDrawable}
use Rattle.flat_scene.specs.declared.frames.DrawItem.{DrawItem}
use Rattle.flat_ink.specs.Areas.{has_pixel}
use Rattle.flat_tile.specs.Chosen.{IsSeenIn}
use Rattle.flat_ink.specs.Channels.{channel_step, channel_after}
use Rattle.flat_render.specs.Grids.{tile_bytes, tile_count, band_bytes, grid_bytes, tile_of, IsGrid}
use Rattle.flat_ink.specs.Pixels.{covers}
use Rattle.flat_tile.specs.Chosen.{drawn_in}
use Rattle.flat_render.specs.Stored.{drawn_at}
use Rattle.flat_tile.specs.Tiles.{channel_at, x_at, y_at, tile_area, IsTile}
use Rattle.flat_ink.specs.declared.area.Area.{Area}
use Rattle.flat_render.specs.declared.tile_grid.TileGrid.{TileGrid}
use Rattle.flat_tile.specs.declared.tile.Tile.{Tile}
use Rattle.flat_tile.proofs.lemmas.Items.{after-more, tile-has-byte}
use Rattle.flat_tile.proofs.lemmas.Planes.{some-pixels}
use Rattle.flat_tile.proofs.lemmas.Lists.{some-item}

step-none : (c : ℕ) (item : DrawItem) (px py was : ℕ) → covers item px py ≡ false → channel_step c item px py was ≡ was
step-none c item px py was e = rw e refl

module _ (area : Area) (items seen : List DrawItem) where
  -- one item more that may be seen
  pub seen-more : (i : ℕ) (d : DrawItem) → i < length items → IsDrawable (get_or items i d) → IsSeenIn area (take i items) seen
      → IsSeenIn area (take (i + 1) items) (seen ++ get_or items i d ∷ [])
  seen-more i d within drawable is = record {
    drawable = All-append IsDrawable seen (get_or items i d ∷ []) is.drawable (All-cons IsDrawable (get_or items i d) [] drawable (All-nil IsDrawable));
    same = λ c px py old there.
        fold-append (λ was it. channel_step c it px py was) old seen (get_or items i d ∷ [])
        ∙ ap (λ (was : ℕ). channel_step c (get_or items i d) px py was) (is.same c px py old there)
        ∙ sym (after-more c items i d px py old within);
  }

  -- and one that isn't seen there
  pub seen-past : (i : ℕ) (d : DrawItem) → i < length items → ((px py : ℕ) → has_pixel area px py ≡ true → covers (get_or items i d) px py ≡ false)
      → IsSeenIn area (take i items) seen → IsSeenIn area (take (i + 1) items) seen
  seen-past i d within unseen is = record {
    drawable = is.drawable;
    same = λ c px py old there.
        is.same c px py old there
        ∙ sym (step-none c (get_or items i d) px py (channel_after c (take i items) px py old) (unseen px py there))
        ∙ sym (after-more c items i d px py old within);
  }

module _ (area : Area) (all seen : List DrawItem) (item : DrawItem) where
  -- one item more behind both of two lists
  pub seen-both : IsDrawable item → IsSeenIn area all seen → IsSeenIn area (all ++ item ∷ []) (seen ++ item ∷ [])
  seen-both drawable is = record {
    drawable = All-append IsDrawable seen (item ∷ []) is.drawable (All-cons IsDrawable item [] drawable (All-nil IsDrawable));
    same = λ c px py old there.
        fold-append (λ was it. channel_step c it px py was) old seen (item ∷ [])
        ∙ ap (λ (was : ℕ). channel_step c item px py was) (is.same c px py old there)
        ∙ sym (fold-append (λ was it. channel_step c it px py was) old all (item ∷ []));
  }

  -- and behind the first alone, where it isn't seen
  pub seen-first : ((px py : ℕ) → has_pixel area px py ≡ true → covers item px py ≡ false) → IsSeenIn area all seen
      → IsSeenIn area (all ++ item ∷ []) seen
  seen-first unseen is = record {
    drawable = is.drawable;
    same = λ c px py old there.
        is.same c px py old there
        ∙ sym (step-none c item px py (channel_after c all px py old) (unseen px py there))
        ∙ sym (fold-append (λ was it. channel_step c it px py was) old all (item ∷ []));
  }

-- the bytes of a tile in its row
module _ (g : TileGrid) (is : IsGrid g) (row n : ℕ) (column : n < g.across) where
  pub tile-of-row : (items : List DrawItem) (m : ℕ) → m < tile_bytes g
      → drawn_in (tile_of g (row * g.across + n)) items m ≡ drawn_at g items (row * band_bytes g + (n * tile_bytes g + m))
  tile-of-row items m small =
      let place : (row * g.across + n) * tile_bytes g + m ≡ row * band_bytes g + (n * tile_bytes g + m) = grind arith in
      ap (λ (k : ℕ). drawn_in (tile_of g k) items m) (sym (div-mul-add (row * g.across + n) (tile_bytes g) m small))
      ∙ ap (λ (k : ℕ). drawn_in (tile_of g (((row * g.across + n) * tile_bytes g + m) / tile_bytes g)) items k)
      (sym (mod-mul-add (row * g.across + n) (tile_bytes g) m small))
      ∙ ap (λ (i : ℕ). drawn_at g items i) place

-- drawn by what is seen in a tile, each of its bytes is what it is by all items
pub seen-drawn-in : (tile : Tile) (items seen : List DrawItem) (m : ℕ) → IsTile tile → IsSeenIn (tile_area tile) items seen
    → drawn_in tile seen m ≡ drawn_in tile items m
seen-drawn-in tile items seen m is seen_is = seen_is.same (channel_at tile m) (x_at tile m) (y_at tile m) 0 (tile-has-byte tile m is (some-pixels tile is))

-- how many bytes a row of tiles has, and how many rows there are
pub band-most : (g : TileGrid) → IsGrid g → band_bytes g < 2 ^ 36
band-most g is =
    let most : (g.across * g.tile_w) * g.tile_h ≤ 2 ^ 28 * 64 = mul-le (g.across * g.tile_w) g.tile_h (2 ^ 28) 64 (omega (arith, is.most_right)) is.low in
    let all : band_bytes g ≡ 3 * ((g.across * g.tile_w) * g.tile_h) = grind arith in
    omega (arith, most, all)

pub whole-bands : (g : TileGrid) → grid_bytes g ≡ g.down * band_bytes g
whole-bands g = grind arith

pub tile-of-band : (g : TileGrid) (row n : ℕ) → row < g.down → n < g.across → row * g.across + n < tile_count g
tile-of-band g row n low column = omega (arith, mul-add-lt row g.across n g.down low column)

-- the bytes of a tile end within those of its row, which a number holds
pub tile-in-band : (g : TileGrid) (n s all : ℕ) → IsGrid g → n < g.across → s ≡ tile_bytes g → all ≡ band_bytes g → (n * s + s ≤ all) × (all < 2 ^ 36)
tile-in-band g n s all is column size whole =
    let fits : n * s + s ≤ g.across * s = row_fits n s g.across s column (omega arith) in
    let same : g.across * s ≡ band_bytes g = ap (λ (m : ℕ). g.across * m) size in
    (omega (arith, fits, same), omega (arith, band-most g is))

-- the same of all that is stored
pub tile-in-grid : (g : TileGrid) (n s all : ℕ) → IsGrid g → n < tile_count g → s ≡ tile_bytes g → all ≡ grid_bytes g → (n * s + s ≤ all) × (all < 2 ^ 28)
tile-in-grid g n s all is there size whole =
    let fits : n * s + s ≤ tile_count g * s = row_fits n s (tile_count g) s there (omega arith) in
    let same : tile_count g * s ≡ grid_bytes g = ap (λ (m : ℕ). tile_count g * m) size in
    (omega (arith, fits, same), omega (arith, is.most))

-- the bytes of a row of tiles end within those that are stored, which a number holds
pub band-in-grid : (g : TileGrid) (row size all : ℕ) → IsGrid g → row < g.down → size ≡ band_bytes g → all ≡ grid_bytes g
    → (row * size + size ≤ all) × (all < 2 ^ 28)
band-in-grid g row size all is there size_is whole =
    let fits : row * size + size ≤ g.down * size = row_fits row size g.down size there (omega arith) in
    let same : g.down * size ≡ grid_bytes g = ap (λ (m : ℕ). g.down * m) size_is ∙ sym (whole-bands g) in
    (omega (arith, fits, same, whole), omega (arith, is.most, whole))
