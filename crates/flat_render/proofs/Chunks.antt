-- Tiles as chunks of what is stored.
use Rattle.std.proofs.Common.{ℕ, ◌+◌, ◌-◌, ◌*◌, ◌/◌, ◌<◌, ◌≤◌, ◌≡◌, refl, ap, ◌∙◌, sym, Bool, if◌then◌else◌, List, length, get_or, take, drop, arith}
use Rattle.std.proofs.lemmas.Bool.{cases_lt}
use Rattle.std.proofs.lemmas.List.{length-take, length-drop, get_or-take, get_or-drop}
use Rattle.std.proofs.lemmas.Nat.{div-mul-add, mod-mul-add}
use borrow.Rule.Slice.PartMut.{put_mid}
use Rattle.flat_scene.specs.declared.frames.DrawItem.{DrawItem}
use Rattle.flat_render.specs.Grids.{tile_of, tile_bytes}
use Rattle.flat_render.specs.Stored.{stored_x, stored_y, drawn_at}
use Rattle.flat_tile.specs.Chosen.{drawn_in}
use Rattle.flat_tile.specs.Tiles.{x_at, y_at}
use Rattle.flat_render.specs.declared.tile_grid.TileGrid.{TileGrid}
use Rattle.flat_tile.specs.declared.tile.Tile.{Tile}
use Rattle.flat_ink.proofs.lemmas.Ranges.{either, put-before, put-inside, put-after}
use Rattle.flat_ink.proofs.lemmas.Ranges.{part-there}

-- the pixels of the first n tiles are changed by h, and the others are as they were
pub record IsRepaintedTo (h : ℕ → ℕ → ℕ) (s : ℕ) (old pixels : List ℕ) (n : ℕ) : Type 0 where
  pub below : (i : ℕ) → i < n * s → get_or pixels i 0 ≡ h i (get_or old i 0)
  pub above : (i : ℕ) → n * s ≤ i → get_or pixels i 0 ≡ get_or old i 0

pub repainted-none : (h : ℕ → ℕ → ℕ) (s : ℕ) (pixels : List ℕ) → IsRepaintedTo h s pixels pixels 0
repainted-none h s pixels = record { below = λ i l. absurd (omega arith); above = λ i l. refl }

-- one tile more
pub repainted-more : (h : ℕ → ℕ → ℕ) (s : ℕ) (old pixels line : List ℕ) (n z : ℕ) → n * s + s ≤ length pixels → z ≡ s → length line ≡ s
    → IsRepaintedTo h s old pixels n
    → ((k : ℕ) → k < s → get_or line k 0 ≡ h (n * s + k) (get_or pixels (n * s + k) 0))
    → IsRepaintedTo h s old (put_mid (n * s) z pixels line) (n + 1)
repainted-more h s old pixels line n z fits zs len so_far tile =
    let room : n * s + z ≤ length pixels = omega arith in
    let size : length line ≡ z = omega arith in
    record {
      below = λ i l. either _ _ (cases_lt i (n * s))
          (λ before. put-before (n * s) z pixels line i room before ∙ so_far.below i before)
          (λ above.
          let place : n * s + (i - n * s) ≡ i = omega arith in
          put-inside (n * s) z pixels line i room size above (omega arith)
          ∙ tile (i - n * s) (omega arith)
          ∙ ap (λ (m : ℕ). h m (get_or pixels m 0)) place
          ∙ ap (h i) (so_far.above i above));
      above = λ i l. put-after (n * s) z pixels line i room size (omega arith) ∙ so_far.above i (omega arith);
    }

-- all tiles
pub repainted-all : (h : ℕ → ℕ → ℕ) (s : ℕ) (old pixels : List ℕ) (n m : ℕ) → IsRepaintedTo h s old pixels n → n ≡ m → length old ≡ m * s
    → (i : ℕ) → i < length old → get_or pixels i 0 ≡ h i (get_or old i 0)
repainted-all h s old pixels n m done same all i small = let e : n * s ≡ m * s = ap (λ (k : ℕ). k * s) same in done.below i (omega (arith, e))

-- the part that is one tile's
pub tile-part : (s : ℕ) (pixels : List ℕ) (n z : ℕ) → n * s + s ≤ length pixels → z ≡ s → length (take z (drop (n * s) pixels)) ≡ s
tile-part s pixels n z fits same = simp (length-take, length-drop) (omega arith)

-- a byte, drawn anew where a test holds of its pixel
abbrev pub redrawn : List DrawItem → TileGrid → (ℕ → ℕ → Bool) → ℕ → ℕ → ℕ
redrawn items g test i old = if test (stored_x g i) (stored_y g i) then drawn_at g items i else old

-- the same in a tile
abbrev pub redrawn_in : List DrawItem → Tile → (ℕ → ℕ → Bool) → ℕ → ℕ → ℕ
redrawn_in items tile test m old = if test (x_at tile m) (y_at tile m) then drawn_in tile items m else old

-- the n-th tile, drawn anew, is its part of what is stored
tile-redrawn : (items : List DrawItem) (g : TileGrid) (test : ℕ → ℕ → Bool) (n m old : ℕ) → m < tile_bytes g
    → redrawn_in items (tile_of g n) test m old ≡ redrawn items g test (n * tile_bytes g + m) old
tile-redrawn items g test n m old small =
    ap (λ (k : ℕ). redrawn_in items (tile_of g k) test m old) (sym (div-mul-add n (tile_bytes g) m small))
    ∙ ap (λ (k : ℕ). redrawn_in items (tile_of g ((n * tile_bytes g + m) / tile_bytes g)) test k old) (sym (mod-mul-add n (tile_bytes g) m small))

-- the same of a tile that was drawn as a part of what is stored
pub tile-drawn : (items : List DrawItem) (g : TileGrid) (test : ℕ → ℕ → Bool) (n s z : ℕ) (t : Tile) (bytes part : List ℕ) → s ≡ tile_bytes g → z ≡ s
    → t ≡ tile_of g n → n * s + s ≤ length bytes
    → ((m : ℕ) → m < length (take z (drop (n * s) bytes)) → get_or part m 0 ≡ redrawn_in items t test m (get_or (take z (drop (n * s) bytes)) m 0))
    → (m : ℕ) → m < s → get_or part m 0 ≡ redrawn items g test (n * s + m) (get_or bytes (n * s + m) 0)
tile-drawn items g test n s z t bytes part e zs te fits drawn m small =
    let len : m < length (take z (drop (n * s) bytes)) = simp (length-take, length-drop) (omega arith) in
    let there : get_or (take z (drop (n * s) bytes)) m 0 ≡ get_or bytes (n * s + m) 0 =
    get_or-take z (drop (n * s) bytes) m 0 (omega arith) ∙ get_or-drop (n * s) bytes m 0 in
    drawn m len
    ∙ ap (λ (u : Tile). redrawn_in items u test m (get_or (take z (drop (n * s) bytes)) m 0)) te
    ∙ ap (λ (o : ℕ). redrawn_in items (tile_of g n) test m o) there
    ∙ tile-redrawn items g test n m (get_or bytes (n * s + m) 0) (omega (arith, e))
    ∙ ap (λ (k : ℕ). redrawn items g test (n * k + m) (get_or bytes (n * s + m) 0)) (sym e)
