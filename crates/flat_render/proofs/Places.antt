-- Where pixels are stored.
use Rattle.std.proofs.Common.{ℕ, zero, suc, ◌+◌, ◌*◌, ◌/◌, ◌%◌, ◌^◌, ◌<◌, ◌≤◌, ◌≡◌, min, ap, ◌∙◌, List, arith}
use Rattle.std.proofs.lemmas.Nat.{div-mul-add, mod-mul-add, div-add-mod', mod_below, div_below, mul-add-lt, row_fits, mul-le}
use Rattle.std.proofs.lemmas.Grind.{div_ceil_times}
use Rattle.flat_scene.specs.declared.frames.DrawItem.{DrawItem}
use Rattle.flat_ink.specs.Channels.{channel_after}
use Rattle.flat_render.specs.Grids.{tile_size, tile_bytes, tile_count, grid_bytes, tile_of, tile_with, place_in_tile, run_of, place_of, IsGrid}
use Rattle.flat_render.specs.Stored.{stored_x, stored_y, drawn_at}
use Rattle.flat_tile.specs.Tiles.{channel_at, IsTile}
use Rattle.flat_render.specs.declared.tile_grid.TileGrid.{TileGrid}

-- a place by tile, channel, row and column, read back
module _ (g : TileGrid) (is : IsGrid g) (c px py : ℕ) (channel : c < 3) (x : px < g.width) (y : py < g.height) where
  column : px / g.tile_w < g.across
  column = div_below px g.tile_w g.across is.tile_w (omega (arith, is.right))

  row : py / g.tile_h < g.down
  row = div_below py g.tile_h g.down is.tile_h (omega (arith, is.bottom))

  pub tile-there : tile_with g px py < tile_count g
  tile-there = mul-add-lt (py / g.tile_h) g.across (px / g.tile_w) g.down row column

  pub inner-there : place_in_tile g px py < tile_size g
  inner-there = mul-add-lt (py % g.tile_h) g.tile_w (px % g.tile_w) g.tile_h (mod_below py g.tile_h is.tile_h) (mod_below px g.tile_w is.tile_w)

  pub rest-there : c * tile_size g + place_in_tile g px py < tile_bytes g
  rest-there = omega (arith, mul-add-lt c (tile_size g) (place_in_tile g px py) 3 channel inner-there)

  pub place-there : place_of g c px py < grid_bytes g
  place-there = omega (arith, mul-add-lt (tile_with g px py) (tile_bytes g) (c * tile_size g + place_in_tile g px py) (tile_count g) tile-there rest-there)

  at-tile : place_of g c px py / tile_bytes g ≡ tile_with g px py
  at-tile = div-mul-add (tile_with g px py) (tile_bytes g) (c * tile_size g + place_in_tile g px py) rest-there

  at-rest : place_of g c px py % tile_bytes g ≡ c * tile_size g + place_in_tile g px py
  at-rest = mod-mul-add (tile_with g px py) (tile_bytes g) (c * tile_size g + place_in_tile g px py) rest-there

  at-inner : (c * tile_size g + place_in_tile g px py) % tile_size g ≡ place_in_tile g px py
  at-inner = mod-mul-add c (tile_size g) (place_in_tile g px py) inner-there

  pub stored-channel : channel_at (tile_of g (place_of g c px py / tile_bytes g)) (place_of g c px py % tile_bytes g) ≡ c
  stored-channel = ap (λ (m : ℕ). m / tile_size g) at-rest ∙ div-mul-add c (tile_size g) (place_in_tile g px py) inner-there

  pub stored-x : stored_x g (place_of g c px py) ≡ px
  stored-x =
      ap (λ (n : ℕ). n % g.across * g.tile_w + place_of g c px py % tile_bytes g % tile_size g % g.tile_w) at-tile
      ∙ ap (λ (m : ℕ). tile_with g px py % g.across * g.tile_w + m % tile_size g % g.tile_w) at-rest
      ∙ ap (λ (k : ℕ). tile_with g px py % g.across * g.tile_w + k % g.tile_w) at-inner
      ∙ ap (λ (n : ℕ). n * g.tile_w + (py % g.tile_h * g.tile_w + px % g.tile_w) % g.tile_w) (mod-mul-add (py / g.tile_h) g.across (px / g.tile_w) column)
      ∙ ap (λ (k : ℕ). px / g.tile_w * g.tile_w + k) (mod-mul-add (py % g.tile_h) g.tile_w (px % g.tile_w) (mod_below px g.tile_w is.tile_w))
      ∙ div-add-mod' px g.tile_w

  pub stored-y : stored_y g (place_of g c px py) ≡ py
  stored-y =
      ap (λ (n : ℕ). n / g.across * g.tile_h + place_of g c px py % tile_bytes g % tile_size g / g.tile_w) at-tile
      ∙ ap (λ (m : ℕ). tile_with g px py / g.across * g.tile_h + m % tile_size g / g.tile_w) at-rest
      ∙ ap (λ (k : ℕ). tile_with g px py / g.across * g.tile_h + k / g.tile_w) at-inner
      ∙ ap (λ (n : ℕ). n * g.tile_h + (py % g.tile_h * g.tile_w + px % g.tile_w) / g.tile_w) (div-mul-add (py / g.tile_h) g.across (px / g.tile_w) column)
      ∙ ap (λ (k : ℕ). py / g.tile_h * g.tile_h + k) (div-mul-add (py % g.tile_h) g.tile_w (px % g.tile_w) (mod_below px g.tile_w is.tile_w))
      ∙ div-add-mod' py g.tile_h

  -- so what is drawn there is the channel of that pixel
  pub drawn-place : (items : List DrawItem) → drawn_at g items (place_of g c px py) ≡ channel_after c items px py 0
  drawn-place items =
      ap (λ (n : ℕ). channel_after n items (stored_x g (place_of g c px py)) (stored_y g (place_of g c px py)) 0) stored-channel
      ∙ ap (λ (n : ℕ). channel_after c items n (stored_y g (place_of g c px py)) 0) stored-x
      ∙ ap (λ (n : ℕ). channel_after c items px n 0) stored-y

-- a factor of what is above something is above 0
positive : (a b n : ℕ) → n < a * b → 0 < a
positive zero b n h = absurd (omega arith)
positive (suc a) b n h = omega arith

-- each tile of a grid is one that is not too far out
pub tile-is : (g : TileGrid) (n : ℕ) → IsGrid g → n < tile_count g → IsTile (tile_of g n)
tile-is g n is there =
    let some : 0 < g.across = positive g.across g.down n there in
    let column : n % g.across < g.across = mod_below n g.across some in
    let row : n / g.across < g.down = div_below n g.across g.down some (omega arith) in
    record {
      width = is.tile_w;
      height = is.tile_h;
      narrow = is.narrow;
      low = is.low;
      right = omega (arith, row_fits (n % g.across) g.tile_w g.across g.tile_w column (omega arith), is.most_right);
      bottom = omega (arith, row_fits (n / g.across) g.tile_h g.down g.tile_h row (omega arith), is.most_bottom);
    }

-- there are no more tiles than bytes
pub count-most : (g : TileGrid) → IsGrid g → tile_count g < 2 ^ 28
count-most g is =
    let one_pixel : 1 * 1 ≤ tile_size g = mul-le 1 1 g.tile_w g.tile_h (omega (arith, is.tile_w)) (omega (arith, is.tile_h)) in
    let most : tile_count g * 1 ≤ tile_count g * tile_bytes g =
    mul-le (tile_count g) 1 (tile_count g) (tile_bytes g) (omega arith) (omega (arith, one_pixel)) in
    omega (arith, is.most, most)

-- along one axis, where tiles have 64 pixels or all that there are
pub tiled : (w t a : ℕ) → 0 < w → t ≡ min w 64 → a ≡ w / t + min 1 (w % t) → (0 < t) × (t ≤ 64) × (w ≤ a * t) × (a * t ≤ 2 * w)
tiled w t a some is up =
    let wide : 0 < t = omega arith in
    let times : (w ≤ a * t) × (a * t < w + t) = rw up (div_ceil_times w t wide) in
    (wide, omega arith, times.0, omega (arith, times.1))

-- along the other one, where they have as many as one likes
tiled-by : (w t a : ℕ) → 0 < t → t ≤ 64 → t ≤ w → a ≡ w / t + min 1 (w % t) → (w ≤ a * t) × (a * t ≤ 2 * w)
tiled-by w t a some low within up =
    let times : (w ≤ a * t) × (a * t < w + t) = rw up (div_ceil_times w t some) in
    (times.0, omega (arith, times.1))

pub grid-is : (g : TileGrid) → 0 < g.width → 0 < g.height → g.width * g.height ≤ 4194304 → g.width < 2 ^ 23 → g.height < 2 ^ 23
    → g.tile_w ≡ min g.width 64 → 0 < g.tile_h → g.tile_h ≤ 64 → g.tile_h ≤ g.height
    → g.across ≡ g.width / g.tile_w + min 1 (g.width % g.tile_w) → g.down ≡ g.height / g.tile_h + min 1 (g.height % g.tile_h) → IsGrid g
grid-is g w h most w_most h_most tw some low within across down =
    let x : (0 < g.tile_w) × (g.tile_w ≤ 64) × (g.width ≤ g.across * g.tile_w) × (g.across * g.tile_w ≤ 2 * g.width) =
    tiled g.width g.tile_w g.across w tw across in
    let y : (g.height ≤ g.down * g.tile_h) × (g.down * g.tile_h ≤ 2 * g.height) = tiled-by g.height g.tile_h g.down some low within down in
    let all : (g.across * g.tile_w) * (g.down * g.tile_h) ≤ (2 * g.width) * (2 * g.height) =
    mul-le (g.across * g.tile_w) (g.down * g.tile_h) (2 * g.width) (2 * g.height) x.3 y.1 in
    let bytes : grid_bytes g ≡ 3 * ((g.across * g.tile_w) * (g.down * g.tile_h)) = grind arith in
    record {
      tile_w = x.0;
      tile_h = some;
      narrow = x.1;
      low = low;
      some = positive g.across g.tile_w 0 (omega (arith, x.2));
      right = x.2;
      bottom = y.0;
      most_right = omega (arith, x.3);
      most_bottom = omega (arith, y.1);
      most = omega (arith, all, bytes);
    }

-- of two sides whose product is bounded, each is
pub side-most : (w h n : ℕ) → 0 < h → w * h ≤ n → w ≤ n
side-most w h n some most = omega (arith, mul-le w 1 w h (omega arith) (omega arith))

pub some-pixel : (g : TileGrid) → IsGrid g → 0 < tile_size g
some-pixel g is = omega (arith, mul-le 1 1 g.tile_w g.tile_h (omega (arith, is.tile_w)) (omega (arith, is.tile_h)))

pub some-byte : (g : TileGrid) → IsGrid g → 0 < tile_bytes g
some-byte g is = omega (arith, some-pixel g is)

-- the n-th tile from the left, on a row of the picture
module _ (g : TileGrid) (is : IsGrid g) (n py : ℕ) (column : n < g.across) (y : py < g.height) where
  pub run-tile : py / g.tile_h * g.across + n < tile_count g
  run-tile = omega (arith, mul-add-lt (py / g.tile_h) g.across n g.down (div_below py g.tile_h g.down is.tile_h (omega (arith, is.bottom))) column)

  pub run-fits : run_of g n py + 2 * tile_size g + g.tile_w ≤ grid_bytes g
  run-fits =
      let row : py % g.tile_h * g.tile_w + g.tile_w ≤ g.tile_h * g.tile_w =
      row_fits (py % g.tile_h) g.tile_w g.tile_h g.tile_w (mod_below py g.tile_h is.tile_h) (omega arith) in
      let tile : (py / g.tile_h * g.across + n) * tile_bytes g + tile_bytes g ≤ tile_count g * tile_bytes g =
      row_fits (py / g.tile_h * g.across + n) (tile_bytes g) (tile_count g) (tile_bytes g) run-tile (omega arith) in
      omega (arith, row, tile)

  -- a channel of its i-th pixel there
  pub run-place : (c i : ℕ) → i < g.tile_w → place_of g c (n * g.tile_w + i) py ≡ run_of g n py + (c * tile_size g + i)
  run-place c i small =
      ap (λ (m : ℕ). (py / g.tile_h * g.across + m) * tile_bytes g + (c * tile_size g + (py % g.tile_h * g.tile_w + (n * g.tile_w + i) % g.tile_w)))
      (div-mul-add n g.tile_w i small)
      ∙ ap (λ (m : ℕ). (py / g.tile_h * g.across + n) * tile_bytes g + (c * tile_size g + (py % g.tile_h * g.tile_w + m))) (mod-mul-add n g.tile_w i small)
      ∙ omega arith
