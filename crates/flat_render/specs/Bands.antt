-- Some of the items, which serve for a part of the picture.
use Rattle.std.specs.Prelude.{◌≡◌, ℕ, ◌+◌, ◌*◌, ◌<◌, true, if◌then◌else◌, List, [], ◌∷◌, ◌++◌, length, flat_map}
use Rattle.std.specs.Prelude.{take, drop, slice_index_or, Vec}
use Rattle.std.specs.List.{All}
use Rattle.std.specs.declared.alloc.Global.{Global}
use Rattle.flat_drawable.specs.Drawable.{IsDrawable}
use Rattle.flat_scene.specs.declared.frames.DrawItem.{DrawItem}
use Rattle.flat_ink.specs.declared.area.Area.{Area}
use Rattle.flat_render.specs.declared.tile_grid.TileGrid.{TileGrid}
use Rattle.flat_ink.specs.Areas.{is_among, has_pixel}
use Rattle.flat_ink.specs.Channels.{channel_after}
use Rattle.flat_render.specs.Grids.{tile_of}
use Rattle.flat_tile.specs.Tiles.{tile_area}
use Rattle.flat_tile.specs.Chosen.{chosen, IsSeenIn}

-- of the first n items, the numbers of some that give each pixel of an area what all of these give it
pub record IsChoice (area : Area) (items : List DrawItem) (places : List ℕ) (n : ℕ) : Type 0 where
  pub within : All (λ p. p < length items) places
  pub seen : IsSeenIn area (take n items) (chosen items places)

-- a list of such numbers for each tile of a row
pub record AreChoices (grid : TileGrid) (row : ℕ) (items : List DrawItem) (lists : List (Vec ℕ Global)) (n : ℕ) : Type 0
  where
    pub count : length lists ≡ grid.across
    pub serve : (c : ℕ) (d : Vec ℕ Global) → c < grid.across
        → IsChoice (tile_area (tile_of grid (row * grid.across + c))) items (slice_index_or lists c d).items n

-- numbers that serve all tiles of a row
abbrev pub ServesRow : TileGrid → ℕ → List DrawItem → List ℕ → ℕ → Type 0
ServesRow grid row items places n = (c : ℕ) → c < grid.across
    → IsChoice (tile_area (tile_of grid (row * grid.across + c))) items places n

-- a list of such numbers for each of some rows
abbrev pub AreRows : TileGrid → List DrawItem → List (Vec ℕ Global) → ℕ → Type 0
AreRows grid items lists n = (row : ℕ) (d : Vec ℕ Global) → row < length lists
    → ServesRow grid row items (slice_index_or lists row d).items n

-- numbers of items that give each pixel of an area what those with all of some numbers give it
pub record IsPart (area : Area) (items : List DrawItem) (all places : List ℕ) : Type 0 where
  pub within : All (λ p. p < length items) places
  pub seen : IsSeenIn area (chosen items all) (chosen items places)

-- a list of such numbers for each tile of a row
pub record AreParts (grid : TileGrid) (row : ℕ) (items : List DrawItem) (all : List ℕ)
    (lists : List (Vec ℕ Global)) : Type 0 where
  pub count : length lists ≡ grid.across
  pub serve : (c : ℕ) (d : Vec ℕ Global) → c < grid.across
      → IsPart (tile_area (tile_of grid (row * grid.across + c))) items all (slice_index_or lists c d).items

-- so many lists, and nothing in them
pub record AreEmpty (n : ℕ) (lists : List (Vec ℕ Global)) : Type 0 where
  pub count : length lists ≡ n
  pub empty : (c : ℕ) (d : Vec ℕ Global) → c < n → (slice_index_or lists c d).items ≡ []

-- a number is put at the end of the lists from a first one up to a last one, which isn't among them
pub record IsNoted (n from upto : ℕ) (old lists : List (Vec ℕ Global)) : Type 0 where
  pub count : length lists ≡ length old
  pub noted : (c : ℕ) (d : Vec ℕ Global) → c < length old
      → (slice_index_or lists c d).items ≡ (if is_among from upto c then (slice_index_or old c d).items ++ n ∷ [] else
      (slice_index_or old c d).items)
