-- The rows of a tile, inked one by one.
use Rattle.std.proofs.Common.{ℕ, ◌+◌, ◌-◌, ◌*◌, ◌/◌, ◌%◌, ◌<◌, ◌≤◌, ◌≡◌, ◌≢◌, ◌⊎◌, inl, inr, refl, ap, ◌∙◌, sym, subst, Bool, true, false, nat_lt, nat_le}
use Rattle.std.proofs.Common.{if◌then◌else◌, List, ◌++◌, length, get_or, take, drop, arith}
use Rattle.std.proofs.lemmas.Bool.{cases_lt, false_from_ne_true}
use Rattle.std.proofs.lemmas.Bool.Decides.{nat_tests}
use Rattle.std.proofs.lemmas.List.{get_or-take, get_or-drop, get_or-append_right, get_or_append_left, length-take, length-drop}
use Rattle.std.proofs.lemmas.Nat.{div-mul-add, mod-mul-add, div-add-mod', row_fits}
use borrow.Rule.Slice.PartMut.{put_mid}
use Rattle.flat_base.proofs.lemmas.Tests.{and-left, and-right, and-true}
use Rattle.flat_ink.specs.Areas.{is_among, has_pixel, IsInArea}
use Rattle.flat_tile.specs.Tiles.{x_of, y_of, tile_area}
use Rattle.flat_ink.specs.declared.area.Area.{Area}
use Rattle.flat_tile.specs.declared.tile.Tile.{Tile}
use Rattle.flat_ink.proofs.lemmas.Ranges.{put-inside, put-before, put-after, among, among-low, among-high, same-tests, either, rows-done, none-among}

-- the pixels of an area of a tile are changed by f, and the others are as they were
abbrev pub IsChangedIn : (ℕ → ℕ → ℕ → ℕ) → Tile → Area → List ℕ → List ℕ → Type 0
IsChangedIn f tile cut old pixels = (k : ℕ) → k < length old
    → get_or pixels k 0 ≡ (if has_pixel cut (x_of tile k) (y_of tile k) then f (x_of tile k) (y_of tile k) (get_or old k 0) else get_or old k 0)

-- the place of a pixel in its tile, by its row and column
pub in-row : (k w r from to : ℕ) → to ≤ w → r * w + from ≤ k → k < r * w + to → (k / w ≡ r) × (k % w + r * w ≡ k)
in-row k w r from to fits above below =
    let b : ℕ = k - r * w in
    let place : r * w + b ≡ k = omega arith in
    let small : b < w = omega arith in
    let d : k / w ≡ r = subst (λ (n : ℕ). n / w ≡ r) place (div-mul-add r w b small) in
    let m : k % w ≡ b = subst (λ (n : ℕ). n % w ≡ b) place (mod-mul-add r w b small) in
    (d, omega arith)

-- where an area's part of a row begins in its tile, and how many pixels it has
abbrev pub row_start : Tile → Area → ℕ → ℕ
row_start tile cut py = (py - tile.top) * tile.width + (cut.x0 - tile.left)

abbrev pub row_size : Tile → Area → ℕ → ℕ
row_size tile cut py = (py - tile.top) * tile.width + (cut.x1 - tile.left) - row_start tile cut py

module _ (tile : Tile) (cut : Area) (py : ℕ) (wide : 0 < tile.width) (within : IsInArea (tile_area tile) cut) (some : cut.x0 < cut.x1) (from : cut.y0 ≤ py)
    (to : py < cut.y1) where
  -- the row lies in the tile
  row-fits : row_start tile cut py + row_size tile cut py ≤ tile.width * tile.height
  row-fits =
      let one_more : (py - tile.top) * tile.width + tile.width ≤ tile.height * tile.width =
      row_fits (py - tile.top) tile.width tile.height tile.width (omega (arith, within.y1, within.y0)) (omega arith) in
      omega (arith, one_more, within.x0, within.x1)

  -- a pixel of the row
  row-x : (k : ℕ) → row_start tile cut py ≤ k → k < row_start tile cut py + row_size tile cut py → x_of tile k ≡ cut.x0 + (k - row_start tile cut py)
  row-x k above below =
      let at : (k / tile.width ≡ py - tile.top) × (k % tile.width + (py - tile.top) * tile.width ≡ k) =
      in-row k tile.width (py - tile.top) (cut.x0 - tile.left) (cut.x1 - tile.left) (omega (arith, within.x1)) above (omega (arith, within.x0)) in
      omega (arith, at.1, within.x0)

  row-y : (k : ℕ) → row_start tile cut py ≤ k → k < row_start tile cut py + row_size tile cut py → y_of tile k ≡ py
  row-y k above below =
      let at : (k / tile.width ≡ py - tile.top) × (k % tile.width + (py - tile.top) * tile.width ≡ k) =
      in-row k tile.width (py - tile.top) (cut.x0 - tile.left) (cut.x1 - tile.left) (omega (arith, within.x1)) above (omega (arith, within.x0)) in
      omega (arith, at.0, within.y0)

  -- what has the row's number and columns stands in the row
  row-has : (k : ℕ) → y_of tile k ≡ py → cut.x0 ≤ x_of tile k → x_of tile k < cut.x1
      → (row_start tile cut py ≤ k) × (k < row_start tile cut py + row_size tile cut py)
  row-has k y x0 x1 =
      let q : k / tile.width ≡ py - tile.top = omega (arith, y) in
      let place : (py - tile.top) * tile.width + k % tile.width ≡ k = subst (λ (n : ℕ). n * tile.width + k % tile.width ≡ k) q (div-add-mod' k tile.width) in
      (omega (arith, place, x0, within.x0), omega (arith, place, x1, within.x0))

  -- a pixel that doesn't stand in the row passes the test after it where it passed the one before it
  row-others : (k : ℕ) → ((row_start tile cut py ≤ k) × (k < row_start tile cut py + row_size tile cut py) → ⊥)
      → has_pixel (record cut { y1 = py }) (x_of tile k) (y_of tile k) ≡ has_pixel (record cut { y1 = py + 1 }) (x_of tile k) (y_of tile k)
  row-others k out =
      let x : ℕ = x_of tile k in
      let y : ℕ = y_of tile k in
      same-tests _ _
      (λ h. let inner : is_among cut.y0 py y ≡ true = and-right (is_among cut.x0 cut.x1 x) _ h in
      and-true (and-left _ _ h) (among cut.y0 (py + 1) y (among-low _ _ _ inner) (omega (arith, among-high cut.y0 py y inner))))
      (λ h. let outer : is_among cut.y0 (py + 1) y ≡ true = and-right (is_among cut.x0 cut.x1 x) _ h in
      let columns : is_among cut.x0 cut.x1 x ≡ true = and-left _ _ h in
      let other : y ≢ py = (λ e. out (row-has k e (among-low _ _ _ columns) (among-high cut.x0 cut.x1 x columns))) in
      and-true columns (among cut.y0 py y (among-low _ _ _ outer) (omega (arith, among-high cut.y0 (py + 1) y outer, other))))

  -- a pixel of the row passes the test after it, and didn't before
  row-passes : (k : ℕ) → row_start tile cut py ≤ k → k < row_start tile cut py + row_size tile cut py
      → has_pixel (record cut { y1 = py + 1 }) (x_of tile k) (y_of tile k) ≡ true
  row-passes k above below =
      let x : x_of tile k ≡ cut.x0 + (k - row_start tile cut py) = row-x k above below in
      let y : y_of tile k ≡ py = row-y k above below in
      and-true (among cut.x0 cut.x1 (x_of tile k) (omega (arith, x)) (omega (arith, x, below, within.x0)))
      (among cut.y0 (py + 1) (y_of tile k) (omega (arith, y)) (omega (arith, y)))

  row-failed : (k : ℕ) → row_start tile cut py ≤ k → k < row_start tile cut py + row_size tile cut py
      → has_pixel (record cut { y1 = py }) (x_of tile k) (y_of tile k) ≡ false
  row-failed k above below = false_from_ne_true _ (λ h.
      let inner : is_among cut.y0 py (y_of tile k) ≡ true = and-right (is_among cut.x0 cut.x1 (x_of tile k)) _ h in
      absurd (omega (arith, among-high cut.y0 py (y_of tile k) inner, row-y k above below)))

  -- one row more
  pub row-step : (f : ℕ → ℕ → ℕ → ℕ) (old pixels line : List ℕ) → length old ≡ tile.width * tile.height → length pixels ≡ length old
      → length line ≡ length (take (row_size tile cut py) (drop (row_start tile cut py) pixels))
      → ((i : ℕ) → i < length (take (row_size tile cut py) (drop (row_start tile cut py) pixels))
      → get_or line i 0 ≡ f (cut.x0 + i) py (get_or (take (row_size tile cut py) (drop (row_start tile cut py) pixels)) i 0))
      → IsChangedIn f tile (record cut { y1 = py }) old pixels
      → IsChangedIn f tile (record cut { y1 = py + 1 }) old (put_mid (row_start tile cut py) (row_size tile cut py) pixels line)
  row-step f old pixels line size same len inked so_far = λ k small.
      let a : ℕ = row_start tile cut py in
      let n : ℕ = row_size tile cut py in
      let fits : a + n ≤ length pixels = omega (arith, row-fits, size, same) in
      let line_len : length line ≡ n = len ∙ simp (length-take, length-drop) (omega arith) in
      either _ _ (cases_lt k a)
      (λ before. put-before a n pixels line k fits before ∙ so_far k small
      ∙ ap (λ (b : Bool). if b then f (x_of tile k) (y_of tile k) (get_or old k 0) else get_or old k 0)
      (row-others k (λ h. absurd (omega (arith, h.0, before)))))
      (λ above. either _ _ (cases_lt k (a + n))
      (λ below.
      let i : ℕ = k - a in
      let place : a + i ≡ k = omega arith in
      let there : get_or (take n (drop a pixels)) i 0 ≡ get_or pixels k 0 =
      get_or-take n (drop a pixels) i 0 (omega arith) ∙ get_or-drop a pixels i 0 ∙ ap (λ (m : ℕ). get_or pixels m 0) place in
      let was : get_or pixels k 0 ≡ get_or old k 0 =
      so_far k small ∙ ap (λ (b : Bool). if b then f (x_of tile k) (y_of tile k) (get_or old k 0) else get_or old k 0) (row-failed k above below) in
      put-inside a n pixels line k fits line_len above below
      ∙ inked i (omega (arith, len, line_len))
      ∙ ap (f (cut.x0 + i) py) (there ∙ was)
      ∙ ap (λ (x : ℕ). f x py (get_or old k 0)) (sym (row-x k above below))
      ∙ ap (λ (y : ℕ). f (x_of tile k) y (get_or old k 0)) (sym (row-y k above below))
      ∙ ap (λ (b : Bool). if b then f (x_of tile k) (y_of tile k) (get_or old k 0) else get_or old k 0) (sym (row-passes k above below)))
      (λ past. put-after a n pixels line k fits line_len past ∙ so_far k small
      ∙ ap (λ (b : Bool). if b then f (x_of tile k) (y_of tile k) (get_or old k 0) else get_or old k 0)
      (row-others k (λ h. absurd (omega (arith, h.1, past))))))
