-- A picture's rows, so many in each run of bytes.
use Rattle.std.specs.Prelude.{◌≡◌, ℕ, ◌+◌, ◌-◌, ◌*◌, ◌<◌, ◌≤◌, false, List, [], length, min, slice_index_or}
use Rattle.flat_base.specs.declared.shapes.Rect.{Rect}
use Rattle.flat_render.specs.Damaged.{is_in_any}
use Rattle.flat_render.specs.Rows.{rows_bytes}
use Rattle.flat_texts.specs.declared.strips.TheConstants.{STRIP_ROWS}

-- the bytes of the n-th strip of a picture with these sides and colours
abbrev pub strip_of : ℕ → ℕ → (ℕ → ℕ → List ℕ) → ℕ → List ℕ
strip_of w h colour n = rows_bytes (λ x y. colour x (n * STRIP_ROWS + y)) w (min STRIP_ROWS (h - n * STRIP_ROWS))

-- some texts are the first strips of a picture
abbrev pub AreStrips : ℕ → ℕ → (ℕ → ℕ → List ℕ) → List (List ℕ) → Type 0
AreStrips w h colour texts = (n : ℕ) → n < length texts → slice_index_or texts n [] ≡ strip_of w h colour n

-- the same of those whose pixels lie in none of some rectangles
abbrev pub AreStripsBeside : List Rect → ℕ → ℕ → (ℕ → ℕ → List ℕ) → List (List ℕ) → Type 0
AreStripsBeside rects w h colour texts = (n : ℕ) → n < length texts
    → ((x y : ℕ) → x < w → n * STRIP_ROWS ≤ y → y < min ((n + 1) * STRIP_ROWS) h → is_in_any rects x y ≡ false)
    → slice_index_or texts n [] ≡ strip_of w h colour n
