-- Areas that are as wide as their tile: their rows stand one after another.
use Rattle.std.proofs.Common.{ℕ, ◌+◌, ◌-◌, ◌*◌, ◌/◌, ◌%◌, ◌<◌, ◌≤◌, ◌≡◌, ap, ◌∙◌, sym, Bool, true, false, if◌then◌else◌, List, length, get_or, take, drop}
use Rattle.std.proofs.Common.{arith}
use Rattle.std.proofs.lemmas.Bool.{cases_lt, false_from_ne_true}
use Rattle.std.proofs.lemmas.List.{length-take, length-drop}
use Rattle.std.proofs.lemmas.Nat.{div-add-mod', div_below, le-div, mod_below, mul-le, row_fits}
use borrow.Rule.Slice.PartMut.{put_mid}
use Rattle.flat_base.proofs.lemmas.Tests.{and-right, and-true}
use Rattle.flat_ink.specs.Areas.{is_among, has_pixel, IsInArea}
use Rattle.flat_tile.specs.Tiles.{x_of, y_of, tile_area}
use Rattle.flat_ink.specs.declared.area.Area.{Area}
use Rattle.flat_tile.specs.declared.tile.Tile.{Tile}
use Rattle.flat_ink.proofs.lemmas.Ranges.{part-there}
use Rattle.flat_ink.proofs.lemmas.Ranges.{among, among-low, among-high, either, put-before, put-inside, put-after}

-- where the rows of an area begin in its tile, and where they end
abbrev pub rows_from : Tile → Area → ℕ
rows_from tile cut = (cut.y0 - tile.top) * tile.width

abbrev pub rows_upto : Tile → Area → ℕ
rows_upto tile cut = (cut.y1 - tile.top) * tile.width

module _ (tile : Tile) (cut : Area) (wide : 0 < tile.width) (within : IsInArea (tile_area tile) cut) (some : cut.y0 < cut.y1)
    (whole : tile.width ≤ cut.x1 - cut.x0) where
  pub rows-rise : rows_from tile cut ≤ rows_upto tile cut
  rows-rise = mul-le (cut.y0 - tile.top) tile.width (cut.y1 - tile.top) tile.width (omega arith) (omega arith)

  pub rows-fit : rows_upto tile cut ≤ tile.width * tile.height
  rows-fit =
      let most : (cut.y1 - tile.top) * tile.width ≤ tile.height * tile.width =
      mul-le (cut.y1 - tile.top) tile.width tile.height tile.width (omega (arith, within.y1)) (omega arith) in
      omega (arith, most)

  row-inside : (k : ℕ) → rows_from tile cut ≤ k → k < rows_upto tile cut → has_pixel cut (x_of tile k) (y_of tile k) ≡ true
  row-inside k above below =
      let x : k % tile.width < tile.width = mod_below k tile.width wide in
      let low : cut.y0 - tile.top ≤ k / tile.width = le-div (cut.y0 - tile.top) k tile.width wide above in
      let high : k / tile.width < cut.y1 - tile.top = div_below k tile.width (cut.y1 - tile.top) wide below in
      and-true (among cut.x0 cut.x1 (x_of tile k) (omega (arith, x, within.x0, within.x1)) (omega (arith, x, within.x0, within.x1)))
      (among cut.y0 cut.y1 (y_of tile k) (omega (arith, low, within.y0)) (omega (arith, high, within.y0)))

  row-outside : (k : ℕ) → ((rows_from tile cut ≤ k) × (k < rows_upto tile cut) → ⊥) → has_pixel cut (x_of tile k) (y_of tile k) ≡ false
  row-outside k out = false_from_ne_true _ (λ h.
      let rows : is_among cut.y0 cut.y1 (y_of tile k) ≡ true = and-right (is_among cut.x0 cut.x1 (x_of tile k)) _ h in
      let low : cut.y0 - tile.top ≤ k / tile.width = omega (arith, among-low cut.y0 cut.y1 (y_of tile k) rows) in
      let high : k / tile.width < cut.y1 - tile.top = omega (arith, among-high cut.y0 cut.y1 (y_of tile k) rows, within.y0) in
      let place : k / tile.width * tile.width + k % tile.width ≡ k = div-add-mod' k tile.width in
      let from : (cut.y0 - tile.top) * tile.width ≤ k / tile.width * tile.width =
      mul-le (cut.y0 - tile.top) tile.width (k / tile.width) tile.width low (omega arith) in
      let to : k / tile.width * tile.width + tile.width ≤ (cut.y1 - tile.top) * tile.width =
      row_fits (k / tile.width) tile.width (cut.y1 - tile.top) tile.width high (omega arith) in
      let rest : k % tile.width < tile.width = mod_below k tile.width wide in
      out (omega (arith, place, from), omega (arith, place, to, rest)))

  -- changed as one line, each pixel of the area is changed and no other
  pub whole-rows : (F : ℕ → ℕ) (plane line : List ℕ) → length plane ≡ tile.width * tile.height
      → length line ≡ length (take (rows_upto tile cut - rows_from tile cut) (drop (rows_from tile cut) plane))
      → ((i : ℕ) → i < length (take (rows_upto tile cut - rows_from tile cut) (drop (rows_from tile cut) plane))
      → get_or line i 0 ≡ F (get_or (take (rows_upto tile cut - rows_from tile cut) (drop (rows_from tile cut) plane)) i 0))
      → (k : ℕ) → k < length plane
      → get_or (put_mid (rows_from tile cut) (rows_upto tile cut - rows_from tile cut) plane line) k 0
      ≡ (if has_pixel cut (x_of tile k) (y_of tile k) then F (get_or plane k 0) else get_or plane k 0)
  whole-rows F plane line size len changed k small =
      let a : ℕ = rows_from tile cut in
      let n : ℕ = rows_upto tile cut - rows_from tile cut in
      let fits : a + n ≤ length plane = omega (arith, rows-rise, rows-fit, size) in
      let line_len : length line ≡ n = len ∙ simp (length-take, length-drop) (omega arith) in
      let as_test : (b : Bool) → has_pixel cut (x_of tile k) (y_of tile k) ≡ b
      → (if has_pixel cut (x_of tile k) (y_of tile k) then F (get_or plane k 0) else get_or plane k 0)
      ≡ (if b then F (get_or plane k 0) else get_or plane k 0) =
      (λ b e. ap (λ (t : Bool). if t then F (get_or plane k 0) else get_or plane k 0) e) in
      either _ _ (cases_lt k a)
      (λ before. put-before a n plane line k fits before ∙ sym (as_test false (row-outside k (λ h. absurd (omega (arith, h.0, before))))))
      (λ above. either _ _ (cases_lt k (a + n))
      (λ below.
      let place : a + (k - a) ≡ k = omega arith in
      put-inside a n plane line k fits line_len above below
      ∙ changed (k - a) (omega (arith, len, line_len))
      ∙ ap F (part-there a n plane (k - a) (omega arith) ∙ ap (λ (m : ℕ). get_or plane m 0) place)
      ∙ sym (as_test true (row-inside k above (omega (arith, rows-rise)))))
      (λ past. put-after a n plane line k fits line_len past ∙ sym (as_test false (row-outside k (λ h. absurd (omega (arith, h.1, past, rows-rise)))))))
