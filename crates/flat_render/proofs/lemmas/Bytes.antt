-- Bytes written one piece after another.
use Rattle.std.proofs.Common.{ℕ, zero, suc, ◌+◌, ◌<◌, ◌≡◌, refl, ap, ◌∙◌, sym, List, [], ◌∷◌, ◌++◌, zero-add, arith}
use Rattle.std.specs.List.{flat_map, range_with_len}
use Rattle.std.proofs.lemmas.List.{append_assoc, append-nil, flat_map_more, map-id}
use Rattle.flat_render.specs.Pictures.{Shows, width_of, height_of, pixel_of}
use Rattle.flat_render.specs.Ppm.{header, row_bytes, ppm_bytes}
use Rattle.flat_render.specs.declared.picture.Picture.{Picture}
use Rattle.std.proofs.lemmas.List.FromFn.{map-range_with_len_more}

range-more : (n : ℕ) → range_with_len 0 (n + 1) ≡ range_with_len 0 n ++ n ∷ []
range-more n =
    sym (map-id (range_with_len 0 (n + 1))) ∙ map-range_with_len_more (λ x. x) 0 n n (zero-add n)
    ∙ ap (λ (xs : List ℕ). xs ++ n ∷ []) (map-id (range_with_len 0 n))

-- one piece more
pub piece-more : (f : ℕ → List ℕ) (n : ℕ) (before was piece now : List ℕ) → was ≡ before ++ flat_map f (range_with_len 0 n) → piece ≡ f n → now ≡ was ++ piece
    → now ≡ before ++ flat_map f (range_with_len 0 (n + 1))
piece-more f n before was piece now e p h =
    h ∙ ap (λ (xs : List ℕ). xs ++ piece) e ∙ ap (λ (ys : List ℕ). (before ++ flat_map f (range_with_len 0 n)) ++ ys) p
    ∙ flat_map_more f before (range_with_len 0 n) n ∙ ap (λ (xs : List ℕ). before ++ flat_map f xs) (sym (range-more n))

one-more : (f : ℕ → List ℕ) (n : ℕ) → flat_map f (range_with_len 0 (n + 1)) ≡ flat_map f (range_with_len 0 n) ++ f n
one-more f n = sym (piece-more f n [] (flat_map f (range_with_len 0 n)) (f n) (flat_map f (range_with_len 0 n) ++ f n) refl refl refl)

-- pieces from a number on
pieces-append : (f : ℕ → List ℕ) (a n : ℕ) → flat_map f (range_with_len 0 (a + n)) ≡ flat_map f (range_with_len 0 a)
    ++ flat_map (λ i. f (a + i)) (range_with_len 0 n)
pieces-append f a zero = ap (λ (m : ℕ). flat_map f (range_with_len 0 m)) (omega arith) ∙ sym (append-nil (flat_map f (range_with_len 0 a)))
pieces-append f a (suc n) =
    let e : a + suc n ≡ (a + n) + 1 = omega arith in
    let k : suc n ≡ n + 1 = omega arith in
    ap (λ (m : ℕ). flat_map f (range_with_len 0 m)) e ∙ one-more f (a + n)
    ∙ ap (λ (xs : List ℕ). xs ++ f (a + n)) (pieces-append f a n)
    ∙ append_assoc (flat_map f (range_with_len 0 a)) (flat_map (λ i. f (a + i)) (range_with_len 0 n)) (f (a + n))
    ∙ ap (λ (xs : List ℕ). flat_map f (range_with_len 0 a) ++ xs)
    (sym (one-more (λ i. f (a + i)) n) ∙ ap (λ (m : ℕ). flat_map (λ i. f (a + i)) (range_with_len 0 m)) (sym k))

-- pieces that are the same one by one are the same as a whole
pub pieces-same : (f g : ℕ → List ℕ) (n : ℕ) → ((i : ℕ) → i < n → f i ≡ g i) → flat_map f (range_with_len 0 n) ≡ flat_map g (range_with_len 0 n)
pieces-same f g zero h = refl
pieces-same f g (suc n) h =
    let e : suc n ≡ n + 1 = omega arith in
    ap (λ (m : ℕ). flat_map f (range_with_len 0 m)) e ∙ one-more f n
    ∙ ap (λ (xs : List ℕ). xs ++ f n) (pieces-same f g n (λ i l. h i (omega arith)))
    ∙ ap (λ (ys : List ℕ). flat_map g (range_with_len 0 n) ++ ys) (h n (omega arith))
    ∙ sym (one-more g n) ∙ ap (λ (m : ℕ). flat_map g (range_with_len 0 m)) (sym e)

-- a run of pieces more
pub run-more : (f g : ℕ → List ℕ) (a n b : ℕ) (before was now : List ℕ) → b ≡ a + n → was ≡ before ++ flat_map f (range_with_len 0 a)
    → ((i : ℕ) → i < n → g i ≡ f (a + i))
    → now ≡ was ++ flat_map g (range_with_len 0 n) → now ≡ before ++ flat_map f (range_with_len 0 b)
run-more f g a n b before was now e so_far same h =
    h ∙ ap (λ (xs : List ℕ). xs ++ flat_map g (range_with_len 0 n)) so_far
    ∙ append_assoc before (flat_map f (range_with_len 0 a)) (flat_map g (range_with_len 0 n))
    ∙ ap (λ (xs : List ℕ). before ++ (flat_map f (range_with_len 0 a) ++ xs)) (pieces-same g (λ i. f (a + i)) n same)
    ∙ ap (λ (xs : List ℕ). before ++ xs) (sym (pieces-append f a n))
    ∙ ap (λ (m : ℕ). before ++ flat_map f (range_with_len 0 m)) (sym e)

-- so a picture's bytes are those of the colours that it shows
pub shown-bytes : (p : Picture) (w h : ℕ) (colour : ℕ → ℕ → List ℕ) → Shows p w h colour
    → ppm_bytes (width_of p) (height_of p) (pixel_of p) ≡ ppm_bytes w h colour
shown-bytes p w h colour s =
    ap (λ (n : ℕ). ppm_bytes n (height_of p) (pixel_of p)) s.width
    ∙ ap (λ (n : ℕ). ppm_bytes w n (pixel_of p)) s.height
    ∙ ap (λ (bytes : List ℕ). header w h ++ bytes)
    (pieces-same (λ y. row_bytes (pixel_of p) w y) (λ y. row_bytes colour w y) h
    (λ y low. pieces-same (λ x. pixel_of p x y) (λ x. colour x y) w (λ x narrow. s.pixels x y narrow low)))
