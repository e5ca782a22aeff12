-- Strips of pictures.
use Rattle.std.proofs.Common.{◌≡◌, ℕ, ◌⊎◌, inl, inr, ◌+◌, ◌-◌, ◌*◌, ◌<◌, ◌≤◌, min, List, [], ◌∷◌, ◌++◌, refl, sym, ap, ◌∙◌, subst, length, length-append}
use Rattle.std.proofs.Common.{get_or, arith}
use Rattle.std.proofs.lemmas.Bool.{cases_lt}
use Rattle.std.proofs.lemmas.List.{append_assoc, get_or_append_left, get_or-append_right}
use Rattle.flat_base.specs.declared.shapes.Rect.{Rect}
use Rattle.flat_scene.specs.declared.frames.DrawItem.{DrawItem}
use Rattle.flat_damage.specs.Damage.{IsDamage}
use Rattle.flat_damage.specs.Unchanged.{DamageCovers}
use Rattle.flat_render.specs.declared.picture.Picture.{Picture}
use Rattle.flat_render.specs.Pictures.{Shows, width_of, height_of, pixel_of}
use Rattle.flat_ink.specs.Pixels.{pixel}
use Rattle.flat_render.specs.Ppm.{header, row_bytes, ppm_bytes}
use Rattle.flat_render.specs.Rows.{rows_bytes}
use Rattle.flat_render.proofs.lemmas.Bytes.{pieces-same, run-more, shown-bytes}
use Rattle.flat_texts.specs.declared.strips.TheConstants.{STRIP_ROWS}
use Rattle.flat_texts.specs.Strips.{AreStrips, AreStripsBeside, strip_of}

either : {R : Type 0} (P Q : Type 0) → P ⊎ Q → (P → R) → (Q → R) → R
either P Q (inl p) f g = f p
either P Q (inr q) f g = g q

module _ (w h : ℕ) (colour : ℕ → ℕ → List ℕ) where
  -- a strip of equal colours
  pub strip-same : (other : ℕ → ℕ → List ℕ) (n : ℕ) → ((x y : ℕ) → x < w → n * STRIP_ROWS ≤ y → y < min ((n + 1) * STRIP_ROWS) h → colour x y ≡ other x y)
      → strip_of w h colour n ≡ strip_of w h other n
  strip-same other n same =
      pieces-same (λ y. row_bytes (λ x k. colour x (n * STRIP_ROWS + k)) w y) (λ y. row_bytes (λ x k. other x (n * STRIP_ROWS + k)) w y)
      (min STRIP_ROWS (h - n * STRIP_ROWS))
      (λ y small. pieces-same (λ x. colour x (n * STRIP_ROWS + y)) (λ x. other x (n * STRIP_ROWS + y)) w
      (λ x wide. same x (n * STRIP_ROWS + y) wide (omega arith) (omega (arith, small))))

  -- rows from one up to another are a strip
  pub strip-rows : (n from upto : ℕ) → from ≡ n * STRIP_ROWS → upto ≡ min (from + STRIP_ROWS) h
      → rows_bytes (λ x y. colour x (from + y)) w (upto - from) ≡ strip_of w h colour n
  strip-rows n from upto begins ends =
      let count : upto - from ≡ min STRIP_ROWS (h - n * STRIP_ROWS) = omega (arith, begins, ends) in
      ap (λ (m : ℕ). rows_bytes (λ x y. colour x (m + y)) w (upto - from)) begins ∙ ap (λ (m : ℕ). rows_bytes (λ x y. colour x (n * STRIP_ROWS + y)) w m) count

  -- one strip more
  pub text-more : (n : ℕ) (before was strip now : List ℕ) → was ≡ before ++ rows_bytes colour w (min (n * STRIP_ROWS) h) → strip ≡ strip_of w h colour n
      → now ≡ was ++ strip
      → now ≡ before ++ rows_bytes colour w (min ((n + 1) * STRIP_ROWS) h)
  text-more n before was strip now so_far is more =
      run-more (λ y. row_bytes colour w y) (λ y. row_bytes (λ x k. colour x (n * STRIP_ROWS + k)) w y) (min (n * STRIP_ROWS) h)
      (min STRIP_ROWS (h - n * STRIP_ROWS)) (min ((n + 1) * STRIP_ROWS) h)
      before was now (omega arith) so_far
      (λ y small. let at : n * STRIP_ROWS + y ≡ min (n * STRIP_ROWS) h + y = omega (arith, small) in ap (λ (k : ℕ). row_bytes colour w k) at)
      (more ∙ ap (λ (t : List ℕ). was ++ t) is)

  pub strips-more : (n : ℕ) (was : List (List ℕ)) (strip : List ℕ) → length was ≡ n → AreStrips w h colour was → strip ≡ strip_of w h colour n
      → AreStrips w h colour (was ++ strip ∷ [])
  strips-more n was strip all are is = λ k small.
      either _ _ (cases_lt k (length was))
      (λ before. get_or_append_left was (strip ∷ []) [] k before ∙ are k before)
      (λ past.
      let here : k ≡ n = omega (arith, past, small, all, length-append was (strip ∷ [])) in
      let first : k - length was ≡ 0 = omega (arith, here, all) in
      get_or-append_right was (strip ∷ []) (length was) k [] refl past
      ∙ ap (λ (m : ℕ). get_or (strip ∷ []) m []) first ∙ is ∙ ap (λ (m : ℕ). strip_of w h colour m) (sym here))

-- a picture's strips are those of the colours that it shows
pub strips-shown : (p : Picture) (w h : ℕ) (colour : ℕ → ℕ → List ℕ) (texts : List (List ℕ)) → Shows p w h colour
    → AreStrips (width_of p) (height_of p) (pixel_of p) texts → AreStrips w h colour texts
strips-shown p w h colour texts shows are = λ n small.
    are n small
    ∙ ap (λ (m : ℕ). strip_of m (height_of p) (pixel_of p) n) shows.width
    ∙ ap (λ (m : ℕ). strip_of w m (pixel_of p) n) shows.height
    ∙ strip-same w h (pixel_of p) colour n (λ x y wide low high. shows.pixels x y wide (omega (arith, high)))

-- outside of the damage the strips of the list before serve
kept-strips : (p : Picture) (w h : ℕ) (old new : List DrawItem) (rects : List Rect) (texts : List (List ℕ)) → DamageCovers → IsDamage old new rects
    → Shows p w h (pixel new)
    → AreStrips w h (pixel old) texts → AreStripsBeside rects (width_of p) (height_of p) (pixel_of p) texts
kept-strips p w h old new rects texts covers damage shows are = λ n small out.
    are n small
    ∙ strip-same w h (pixel old) (pixel_of p) n
    (λ x y wide low high. covers old new rects damage x y (out x y (omega (arith, wide, shows.width)) low (omega (arith, high, shows.height)))
    ∙ sym (shows.pixels x y wide (omega (arith, high))))
    ∙ ap (λ (m : ℕ). strip_of m h (pixel_of p) n) (sym shows.width)
    ∙ ap (λ (m : ℕ). strip_of (width_of p) m (pixel_of p) n) (sym shows.height)

-- the same of what is seen of the rectangles and of the strips
pub strips-kept : (p : Picture) (w h : ℕ) (old new : List DrawItem) (rects seen : List Rect) (texts held : List (List ℕ)) → seen ≡ rects → held ≡ texts
    → DamageCovers → IsDamage old new rects
    → Shows p w h (pixel new) → AreStrips w h (pixel old) texts → AreStripsBeside seen (width_of p) (height_of p) (pixel_of p) held
strips-kept p w h old new rects seen texts held first second covers damage shows are =
    subst (λ (rs : List Rect). AreStripsBeside rs (width_of p) (height_of p) (pixel_of p) held) (sym first)
    (subst (λ (ts : List (List ℕ)). AreStripsBeside rects (width_of p) (height_of p) (pixel_of p) ts) (sym second)
    (kept-strips p w h old new rects texts covers damage shows are))

-- a header and rows are the bytes of what is shown
pub text-shown : (p : Picture) (w h : ℕ) (colour : ℕ → ℕ → List ℕ) (was mid now : List ℕ) → Shows p w h colour → mid ≡ was ++ header (width_of p) (height_of p)
    → now ≡ mid ++ rows_bytes (pixel_of p) (width_of p) (height_of p) → now ≡ was ++ ppm_bytes w h colour
text-shown p w h colour was mid now shows first second =
    second ∙ ap (λ (t : List ℕ). t ++ rows_bytes (pixel_of p) (width_of p) (height_of p)) first
    ∙ append_assoc was (header (width_of p) (height_of p)) (rows_bytes (pixel_of p) (width_of p) (height_of p))
    ∙ ap (λ (t : List ℕ). was ++ t) (shown-bytes p w h colour shows)
