-- One strip more.
use Rattle.std.proofs.Common.{ℕ, ◌+◌, ◌*◌, ◌<◌, ◌≡◌, min, refl, sym, ap, ◌∙◌, List, [], ◌∷◌, ◌++◌, length, get_or, arith}
use Rattle.std.proofs.lemmas.List.{flat_map_more}
use Rattle.std.specs.List.{flat_map}
use Rattle.flat_scene.specs.declared.frames.DrawItem.{DrawItem}
use Rattle.flat_render.specs.declared.tile_grid.TileGrid.{TileGrid}
use Rattle.flat_render.specs.Grids.{band_bytes, IsGrid}
use Rattle.flat_ink.specs.Pixels.{pixel}
use Rattle.flat_render.specs.Rows.{band_of, colour_in, rows_bytes}
use Rattle.flat_render.specs.Stored.{drawn_at}
use Rattle.flat_render.specs.Strips.{rows_above, strip_in}
use Rattle.flat_render.proofs.RowsOf.{drawn-colour, rows-more}

-- a row of tiles that was drawn gives the rows below those above it
pub strip-more : (items : List DrawItem) (g : TileGrid) (n : ℕ) (band : List ℕ) → IsGrid g → n < g.down → length band ≡ band_bytes g
    → ((m : ℕ) → m < length band → get_or band m 0 ≡ drawn_at g items (n * band_bytes g + m))
    → rows_above items g n ++ strip_in g n band ≡ rows_above items g (n + 1)
strip-more items g n band is there size drawn =
    rows-more g (pixel items) (colour_in (band_of g n) band) n [] (rows_above items g n) (rows_above items g n ++ strip_in g n band) refl
    (λ x y wide high. drawn-colour g is n x y there wide high items band size drawn) refl

-- so strips grow as the rows do
pub rows-grow : {S : Type 0} (f : S → List ℕ) (above here next : List ℕ) (old new : List S) (strip : S) → here ≡ above ++ flat_map f old
    → here ++ f strip ≡ next → new ≡ old ++ strip ∷ []
    → next ≡ above ++ flat_map f new
rows-grow f above here next old new strip so_far more are =
    sym more ∙ ap (λ (t : List ℕ). t ++ f strip) so_far ∙ flat_map_more f above old strip ∙ ap (λ all. above ++ flat_map f all) (sym are)

-- above the first row of tiles there is nothing
pub none-above : (items : List DrawItem) (g : TileGrid) → rows_above items g 0 ≡ []
none-above items g =
    let none : min (0 * g.tile_h) g.height ≡ 0 = omega arith in
    ap (λ (n : ℕ). rows_bytes (pixel items) g.width n) none
