-- The pixels of a picture whose bytes were drawn.
use Rattle.std.proofs.Common.{ℕ, ◌<◌, ◌≡◌, ◌∙◌, ap, List, [], ◌∷◌, length, get_or, Vec, arith}
use Rattle.std.specs.Vec.{with_items}
use Rattle.std.specs.declared.alloc.Global.{Global}
use Rattle.std.proofs.lemmas.List.{with_items_is}
use Rattle.flat_scene.specs.declared.frames.DrawItem.{DrawItem}
use Rattle.flat_ink.specs.Channels.{channel_after}
use Rattle.flat_render.specs.Grids.{grid_bytes, place_of, IsGrid}
use Rattle.flat_ink.specs.Pixels.{pixel}
use Rattle.flat_render.specs.Stored.{drawn_at}
use Rattle.flat_render.specs.declared.tile_grid.TileGrid.{TileGrid}
use Rattle.flat_render.proofs.Channels.{pixel-channels}
use Rattle.flat_render.proofs.Places.{place-there, drawn-place}

module _ (g : TileGrid) (is : IsGrid g) (items drawn : List DrawItem) (same : drawn ≡ items) (bytes : Vec ℕ Global) (old new : List ℕ)
    (size : length old ≡ grid_bytes g) (kept : length new ≡ bytes.len) (are : (i : ℕ) → i < length old → get_or new i 0 ≡ drawn_at g drawn i) where
  channel : (n x y : ℕ) → n < 3 → x < g.width → y < g.height → get_or (with_items bytes new).items (place_of g n x y) 0 ≡ channel_after n items x y 0
  channel n x y low wide high =
      let i : ℕ = place_of g n x y in
      ap (λ (xs : List ℕ). get_or xs i 0) (with_items_is bytes new kept)
      ∙ are i (omega (arith, place-there g is n x y low wide high, size))
      ∙ drawn-place g is n x y low wide high drawn
      ∙ ap (λ (its : List DrawItem). channel_after n its x y 0) same

  pub rendered : (x y : ℕ) → x < g.width → y < g.height
      → get_or (with_items bytes new).items (place_of g 0 x y) 0 ∷ get_or (with_items bytes new).items (place_of g 1 x y) 0
      ∷ get_or (with_items bytes new).items (place_of g 2 x y) 0 ∷ [] ≡ pixel items x y
  rendered x y wide high = pixel-channels items x y _ _ _ (channel 0 x y (omega arith) wide high) (channel 1 x y (omega arith) wide high)
      (channel 2 x y (omega arith) wide high)
