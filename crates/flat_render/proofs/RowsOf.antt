-- Rows of a picture that are read off rows of tiles.
use Rattle.std.proofs.Common.{ℕ, ◌+◌, ◌-◌, ◌*◌, ◌/◌, ◌%◌, ◌<◌, ◌≤◌, ◌≡◌, min, ap, ◌∙◌, sym, List, [], ◌∷◌, ◌++◌, length, get_or, take, drop, arith}
use Rattle.std.proofs.lemmas.List.{get_or-take, get_or-drop}
use Rattle.std.proofs.lemmas.Nat.{div-mul-add, mod-mul-add, row_fits}
use Rattle.flat_scene.specs.declared.frames.DrawItem.{DrawItem}
use Rattle.flat_ink.specs.Channels.{channel_after}
use Rattle.flat_render.specs.Grids.{tile_size, tile_bytes, band_bytes, grid_bytes, place_of, IsGrid}
use Rattle.flat_ink.specs.Pixels.{pixel}
use Rattle.flat_render.specs.Ppm.{row_bytes}
use Rattle.flat_render.specs.Rows.{band_of, colour_in, rows_bytes}
use Rattle.flat_render.specs.Stored.{drawn_at}
use Rattle.flat_render.specs.declared.tile_grid.TileGrid.{TileGrid}
use Rattle.flat_render.proofs.Bands.{whole-bands}
use Rattle.flat_render.proofs.lemmas.Bytes.{pieces-same, run-more}
use Rattle.flat_render.proofs.Channels.{pixel-channels}
use Rattle.flat_render.proofs.Places.{drawn-place, place-there}

-- a row of tiles has as many bytes as its grid
pub band-bytes : (g : TileGrid) (n : ℕ) → grid_bytes (band_of g n) ≡ band_bytes g
band-bytes g n = let e : g.across * 1 ≡ g.across = omega arith in ap (λ (m : ℕ). m * tile_bytes g) e

pub band-is : (g : TileGrid) (n : ℕ) → IsGrid g → n < g.down → IsGrid (band_of g n)
band-is g n is there =
    let fits : n * band_bytes g + band_bytes g ≤ g.down * band_bytes g = row_fits n (band_bytes g) g.down (band_bytes g) there (omega arith) in
    record {
      tile_w = is.tile_w;
      tile_h = is.tile_h;
      narrow = is.narrow;
      low = is.low;
      some = is.some;
      right = is.right;
      bottom = omega arith;
      most_right = is.most_right;
      most_bottom = omega (arith, is.low);
      most = omega (arith, is.most, fits, whole-bands g, band-bytes g n);
    }

-- below the side, nothing is divided
small-div : (y t : ℕ) → y < t → y / t ≡ 0
small-div y t low = let e : y ≡ 0 * t + y = omega arith in ap (λ (m : ℕ). m / t) e ∙ div-mul-add 0 t y low

small-mod : (y t : ℕ) → y < t → y % t ≡ y
small-mod y t low = let e : y ≡ 0 * t + y = omega arith in ap (λ (m : ℕ). m % t) e ∙ mod-mul-add 0 t y low

spread : (n a k t z : ℕ) → (n * a + k) * t + z ≡ n * (a * t) + ((0 * a + k) * t + z)
spread n a k t z = grind arith

-- where a row of tiles has a pixel, its bytes begin at a place of all bytes
pub band-place : (g : TileGrid) (n c x y : ℕ) → y < g.tile_h → place_of g c x (n * g.tile_h + y) ≡ n * band_bytes g + place_of (band_of g n) c x y
band-place g n c x y low =
    let t : ℕ = g.tile_h in
    ap (λ (q : ℕ). (q * g.across + x / g.tile_w) * tile_bytes g + (c * tile_size g + ((n * t + y) % t * g.tile_w + x % g.tile_w))) (div-mul-add n t y low)
    ∙ ap (λ (r : ℕ). (n * g.across + x / g.tile_w) * tile_bytes g + (c * tile_size g + (r * g.tile_w + x % g.tile_w))) (mod-mul-add n t y low)
    ∙ spread n g.across (x / g.tile_w) (tile_bytes g) (c * tile_size g + (y * g.tile_w + x % g.tile_w))
    ∙ ap (λ (q : ℕ). n * band_bytes g + ((q * g.across + x / g.tile_w) * tile_bytes g + (c * tile_size g + (y * g.tile_w + x % g.tile_w))))
    (sym (small-div y t low))
    ∙ ap (λ (r : ℕ). n * band_bytes g + ((y / t * g.across + x / g.tile_w) * tile_bytes g + (c * tile_size g + (r * g.tile_w + x % g.tile_w))))
    (sym (small-mod y t low))

module _ (g : TileGrid) (is : IsGrid g) (n x y : ℕ) (there : n < g.down) (wide : x < g.width) (high : y < min g.tile_h (g.height - n * g.tile_h)) where
  low : y < g.tile_h
  low = omega (arith, high)

  within : n * g.tile_h + y < g.height
  within = omega (arith, high)

  here : (c : ℕ) → c < 3 → place_of (band_of g n) c x y < band_bytes g
  here c small = omega (arith, place-there (band_of g n) (band-is g n is there) c x y small wide high, band-bytes g n)

  -- a pixel of a row of tiles that was drawn
  pub drawn-colour : (items : List DrawItem) (band : List ℕ) → length band ≡ band_bytes g
      → ((m : ℕ) → m < length band → get_or band m 0 ≡ drawn_at g items (n * band_bytes g + m))
      → colour_in (band_of g n) band x y ≡ pixel items x (n * g.tile_h + y)
  drawn-colour items band size are = pixel-channels items x (n * g.tile_h + y) _ _ _ (channel 0 (omega arith)) (channel 1 (omega arith))
      (channel 2 (omega arith))
    where
      channel : (c : ℕ) → c < 3 → get_or band (place_of (band_of g n) c x y) 0 ≡ channel_after c items x (n * g.tile_h + y) 0
      channel c small =
          are (place_of (band_of g n) c x y) (omega (arith, here c small, size))
          ∙ ap (λ (i : ℕ). drawn_at g items i) (sym (band-place g n c x y low))
          ∙ drawn-place g is c x (n * g.tile_h + y) small wide within items

  -- and one of a row of tiles that is a part of all bytes
  pub copied-colour : (bytes band : List ℕ) (size part : ℕ) → size ≡ band_bytes g → part ≡ size → band ≡ take part (drop (n * size) bytes)
      → colour_in (band_of g n) band x y ≡ colour_in g bytes x (n * g.tile_h + y)
  copied-colour bytes band size part len all are = λ j. channel 0 (omega arith) j ∷ channel 1 (omega arith) j ∷ channel 2 (omega arith) j ∷ []
    where
      channel : (c : ℕ) → c < 3 → get_or band (place_of (band_of g n) c x y) 0 ≡ get_or bytes (place_of g c x (n * g.tile_h + y)) 0
      channel c small =
          let i : ℕ = place_of (band_of g n) c x y in
          ap (λ (xs : List ℕ). get_or xs i 0) are
          ∙ get_or-take part (drop (n * size) bytes) i 0 (omega (arith, here c small, len, all))
          ∙ get_or-drop (n * size) bytes i 0
          ∙ ap (λ (s : ℕ). get_or bytes (n * s + i) 0) len
          ∙ ap (λ (k : ℕ). get_or bytes k 0) (sym (band-place g n c x y low))

-- the rows of one row of tiles more
pub rows-more : (g : TileGrid) (colour of : ℕ → ℕ → List ℕ) (n : ℕ) (before was now : List ℕ)
    → was ≡ before ++ rows_bytes colour g.width (min (n * g.tile_h) g.height)
    → ((x y : ℕ) → x < g.width → y < min g.tile_h (g.height - n * g.tile_h) → of x y ≡ colour x (n * g.tile_h + y))
    → now ≡ was ++ rows_bytes of g.width (min g.tile_h (g.height - n * g.tile_h))
    → now ≡ before ++ rows_bytes colour g.width (min ((n + 1) * g.tile_h) g.height)
rows-more g colour of n before was now so_far same more =
    run-more (λ y. row_bytes colour g.width y) (λ y. row_bytes of g.width y) (min (n * g.tile_h) g.height) (min g.tile_h (g.height - n * g.tile_h))
    (min ((n + 1) * g.tile_h) g.height)
    before was now (omega arith) so_far
    (λ y small.
    let at : n * g.tile_h + y ≡ min (n * g.tile_h) g.height + y = omega (arith, small) in
    pieces-same (λ x. of x y) (λ x. colour x (n * g.tile_h + y)) g.width (λ x wide. same x y wide small) ∙ ap (λ (k : ℕ). row_bytes colour g.width k) at)
    more

-- all rows, when the rows of tiles are done
pub rows-done : (g : TileGrid) (colour : ℕ → ℕ → List ℕ) (n : ℕ) (before now : List ℕ) → IsGrid g → n ≡ g.down
    → now ≡ before ++ rows_bytes colour g.width (min (n * g.tile_h) g.height)
    → now ≡ before ++ rows_bytes colour g.width g.height
rows-done g colour n before now is all so_far =
    let high : g.height ≤ n * g.tile_h = omega (arith, is.bottom, ap (λ (k : ℕ). k * g.tile_h) all) in
    let whole : min (n * g.tile_h) g.height ≡ g.height = omega (arith, high) in
    so_far ∙ ap (λ (k : ℕ). before ++ rows_bytes colour g.width k) whole
