-- Runs of pixels, read from where their channels are stored.
use Rattle.std.proofs.Common.{ℕ, ◌+◌, ◌*◌, ◌<◌, ◌≡◌, ap, ◌∙◌, sym, List, [], ◌∷◌, get_or, arith}
use Rattle.flat_render.specs.Grids.{tile_size, run_of, place_of, IsGrid}
use Rattle.flat_render.specs.Pictures.{pixel_of}
use Rattle.flat_render.specs.Rows.{colour_in}
use Rattle.flat_render.specs.declared.tile_grid.TileGrid.{TileGrid}
use Rattle.flat_render.specs.declared.picture.Picture.{Picture}
use Rattle.flat_render.proofs.Places.{run-place}

red-place : (r s i : ℕ) → r + i ≡ r + (0 * s + i)
red-place r s i = omega arith

green-place : (r s i : ℕ) → r + s + i ≡ r + (1 * s + i)
green-place r s i = omega arith

blue-place : (r s i : ℕ) → r + 2 * s + i ≡ r + (2 * s + i)
blue-place r s i = omega arith

-- the i-th pixel of a run
pub run-colour : (g : TileGrid) → IsGrid g → (bytes : List ℕ) (first size n i y x : ℕ) → first ≡ run_of g n y → size ≡ tile_size g
    → n < g.across → y < g.height → i < g.tile_w → x ≡ n * g.tile_w + i
    → get_or bytes (first + i) 0 ∷ get_or bytes (first + size + i) 0 ∷ get_or bytes (first + 2 * size + i) 0 ∷ [] ≡ colour_in g bytes x y
run-colour g is bytes first size n i y x f s column row small at =
    let r : ℕ = run_of g n y in
    let channel : (c k : ℕ) → k ≡ r + (c * tile_size g + i) → get_or bytes k 0 ≡ get_or bytes (place_of g c x y) 0 =
    (λ c k h.
    ap (λ (m : ℕ). get_or bytes m 0) (h ∙ sym (run-place g is n y column row c i small))
    ∙ ap (λ (m : ℕ). get_or bytes (place_of g c m y) 0) (sym at)) in
    ap (λ (v : ℕ). v ∷ get_or bytes (first + size + i) 0 ∷ get_or bytes (first + 2 * size + i) 0 ∷ [])
    (channel 0 (first + i) (ap (λ (m : ℕ). m + i) f ∙ red-place r (tile_size g) i))
    ∙ ap (λ (v : ℕ). get_or bytes (place_of g 0 x y) 0 ∷ v ∷ get_or bytes (first + 2 * size + i) 0 ∷ [])
    (channel 1 (first + size + i) (ap (λ (m : ℕ). m + size + i) f ∙ ap (λ (m : ℕ). r + m + i) s ∙ green-place r (tile_size g) i))
    ∙ ap (λ (v : ℕ). get_or bytes (place_of g 0 x y) 0 ∷ get_or bytes (place_of g 1 x y) 0 ∷ v ∷ [])
    (channel 2 (first + 2 * size + i) (ap (λ (m : ℕ). m + 2 * size + i) f ∙ ap (λ (m : ℕ). r + 2 * m + i) s ∙ blue-place r (tile_size g) i))

-- the same of a picture
pub run-pixel : (p : Picture) (bytes : List ℕ) (first size n i y x : ℕ) → bytes ≡ p.bytes.items → first ≡ run_of p.grid n y → size ≡ tile_size p.grid
    → n < p.grid.across → y < p.grid.height → i < p.grid.tile_w → x ≡ n * p.grid.tile_w + i
    → get_or bytes (first + i) 0 ∷ get_or bytes (first + size + i) 0 ∷ get_or bytes (first + 2 * size + i) 0 ∷ [] ≡ pixel_of p x y
run-pixel p bytes first size n i y x e f s column row small at =
    run-colour p.grid p.sides bytes first size n i y x f s column row small at ∙ ap (λ (xs : List ℕ). colour_in p.grid xs x y) e
