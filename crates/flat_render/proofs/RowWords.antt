-- Words of a row, written tile by tile.
use Rattle.std.proofs.Common.{ℕ, ◌+◌, ◌-◌, ◌*◌, ◌<◌, ◌≤◌, ◌≡◌, ap, ◌∙◌, List, [], ◌∷◌, take, drop, length, get_or, arith}
use Rattle.std.proofs.lemmas.Bool.{cases_lt}
use borrow.Rule.Slice.PartMut.{put_mid}
use Rattle.flat_render.specs.Grids.{tile_size, run_of}
use Rattle.flat_render.specs.Pictures.{pixel_of}
use Rattle.flat_render.specs.Words.{xrgb}
use Rattle.flat_render.specs.declared.picture.Picture.{Picture}
use Rattle.flat_ink.proofs.lemmas.Ranges.{part-there}
use Rattle.flat_ink.proofs.lemmas.Lines.{IsChangedTo}
use Rattle.flat_ink.proofs.lemmas.Ranges.{either, put-before, put-inside, put-after}
use Rattle.flat_render.proofs.Runs.{run-pixel}

-- a part of a line more
pub part-more : (f : ℕ → ℕ → ℕ) (old line part : List ℕ) (a b z m : ℕ) → a ≡ m → a ≤ b → b ≤ length line → z ≡ b - a → length part ≡ z
    → IsChangedTo f old line m
    → ((i : ℕ) → a + i < b → get_or part i 0 ≡ f (a + i) (get_or old (a + i) 0)) → IsChangedTo f old (put_mid a z line part) b
part-more f old line part a b z m here up fits wide size so_far changed = record {
  below = λ k small.
      either _ _ (cases_lt k a)
      (λ before. put-before a z line part k (omega arith) before ∙ so_far.below k (omega arith))
      (λ above.
      let place : a + (k - a) ≡ k = omega arith in
      put-inside a z line part k (omega arith) size above (omega arith)
      ∙ changed (k - a) (omega arith)
      ∙ ap (λ (n : ℕ). f n (get_or old n 0)) place);
  above = λ k past. put-after a z line part k (omega arith) size (omega arith) ∙ so_far.above k (omega arith);
}

-- what is behind a place of a list, read at a number
behind : (a i : ℕ) (xs : List ℕ) → a + i < length xs → get_or (take (length xs - a) (drop a xs)) i 0 ≡ get_or xs (a + i) 0
behind a i xs small = part-there a (length xs - a) xs i (omega arith)

-- the word of the i-th pixel of a run
pub run-word : (p : Picture) (bytes : List ℕ) (first size n i y x : ℕ) → bytes ≡ p.bytes.items → first ≡ run_of p.grid n y → size ≡ tile_size p.grid
    → n < p.grid.across → y < p.grid.height → i < p.grid.tile_w → x ≡ n * p.grid.tile_w + i → first + 2 * size + i < length bytes
    → xrgb (get_or (take (length bytes - first) (drop first bytes)) i 0 ∷ get_or (take (length bytes - (first + size)) (drop (first + size) bytes)) i 0
    ∷ get_or (take (length bytes - (first + 2 * size)) (drop (first + 2 * size) bytes)) i 0 ∷ []) ≡ xrgb (pixel_of p x y)
run-word p bytes first size n i y x e f s column row small at room =
    ap xrgb ((λ j. behind first i bytes (omega arith) j ∷ behind (first + size) i bytes (omega arith) j ∷ behind (first + 2 * size) i bytes (omega arith) j
    ∷ [])
    ∙ run-pixel p bytes first size n i y x e f s column row small at)
