-- Parts of lists, and numbers between bounds.
use Rattle.std.proofs.Common.{ℕ, ◌+◌, ◌-◌, ◌*◌, ◌/◌, ◌%◌, ◌<◌, ◌≤◌, ◌≡◌, ◌≢◌, ◌⊎◌, inl, inr, refl, ap, ◌∙◌, sym, subst, Bool, true, false, nat_lt, nat_le}
use Rattle.std.proofs.Common.{if◌then◌else◌, List, ◌++◌, length, get_or, take, drop, arith}
use Rattle.std.proofs.lemmas.Bool.{cases_lt, false_from_ne_true}
use Rattle.std.proofs.lemmas.Bool.Decides.{nat_tests}
use Rattle.std.proofs.lemmas.List.{get_or-take, get_or-drop, get_or-append_right, get_or_append_left, length-take, length-drop}
use Rattle.std.proofs.lemmas.Nat.{div-mul-add, mod-mul-add, div-add-mod', row_fits}
use borrow.Rule.Slice.PartMut.{put_mid}
use Rattle.flat_base.proofs.lemmas.Tests.{and-left, and-right, and-true}
use Rattle.flat_ink.specs.Areas.{is_among, has_pixel, IsInArea}

-- a write to a part of a list, read within the part
pub put-inside : (a k : ℕ) (xs ys : List ℕ) (j : ℕ) → a + k ≤ length xs → length ys ≡ k → a ≤ j → j < a + k
    → get_or (put_mid a k xs ys) j 0 ≡ get_or ys (j - a) 0
put-inside a k xs ys j fits len above below =
    let front : length (take a xs) ≡ a = simp length-take (omega arith) in
    get_or-append_right (take a xs) (ys ++ drop k (drop a xs)) a j 0 front above
    ∙ get_or_append_left ys (drop k (drop a xs)) 0 (j - a) (omega arith)

-- before it
pub put-before : (a k : ℕ) (xs ys : List ℕ) (j : ℕ) → a + k ≤ length xs → j < a → get_or (put_mid a k xs ys) j 0 ≡ get_or xs j 0
put-before a k xs ys j fits below =
    let front : length (take a xs) ≡ a = simp length-take (omega arith) in
    get_or_append_left (take a xs) (ys ++ drop k (drop a xs)) 0 j (omega arith) ∙ get_or-take a xs j 0 below

-- and after it
pub put-after : (a k : ℕ) (xs ys : List ℕ) (j : ℕ) → a + k ≤ length xs → length ys ≡ k → a + k ≤ j → get_or (put_mid a k xs ys) j 0 ≡ get_or xs j 0
put-after a k xs ys j fits len above =
    let front : length (take a xs) ≡ a = simp length-take (omega arith) in
    let place : a + (k + (j - a - k)) ≡ j = omega arith in
    get_or-append_right (take a xs) (ys ++ drop k (drop a xs)) a j 0 front (omega arith)
    ∙ get_or-append_right ys (drop k (drop a xs)) k (j - a) 0 len (omega arith)
    ∙ get_or-drop k (drop a xs) (j - a - k) 0
    ∙ get_or-drop a xs (k + (j - a - k)) 0
    ∙ ap (λ n. get_or xs n 0) place

-- what a test of bounds says, and back
pub among : (low high n : ℕ) → low ≤ n → n < high → is_among low high n ≡ true
among low high n h k = grind (arith, nat_tests)

le-says : (a b : ℕ) → nat_le a b ≡ true → a ≤ b
le-says a b h = grind (arith, nat_tests)

lt-says : (a b : ℕ) → nat_lt a b ≡ true → a < b
lt-says a b h = grind (arith, nat_tests)

pub among-low : (low high n : ℕ) → is_among low high n ≡ true → low ≤ n
among-low low high n h = le-says low n (and-left _ _ h)

pub among-high : (low high n : ℕ) → is_among low high n ≡ true → n < high
among-high low high n h = lt-says n high (and-right (nat_le low n) _ h)

-- two tests are equal where each implies the other
pub same-tests : (a b : Bool) → (a ≡ true → b ≡ true) → (b ≡ true → a ≡ true) → a ≡ b
same-tests true b h k = sym (h refl)
same-tests false true h k = k refl
same-tests false false h k = refl

-- either way
pub either : {R : Type 0} (P Q : Type 0) → P ⊎ Q → (P → R) → (Q → R) → R
either P Q (inl p) f g = f p
either P Q (inr q) f g = g q

-- a loop over rows that came to its end did them all
pub rows-done : (y0 y1 py y : ℕ) → y0 < y1 → y1 ≤ py → (y0 ≤ y1 → py ≤ y1) → is_among y0 py y ≡ is_among y0 y1 y
rows-done y0 y1 py y some to most =
    let e : py ≡ y1 = omega (arith, most (omega arith)) in
    ap (λ (n : ℕ). is_among y0 n y) e

-- an area without columns or rows has no pixel
pub none-among : (low high n : ℕ) → high ≤ low → is_among low high n ≡ false
none-among low high n h = false_from_ne_true _ (λ e. absurd (omega (arith, among-low low high n e, among-high low high n e)))

-- a part of a list, read at a place
pub part-there : (a z : ℕ) (xs : List ℕ) (k : ℕ) → k < z → get_or (take z (drop a xs)) k 0 ≡ get_or xs (a + k) 0
part-there a z xs k small = get_or-take z (drop a xs) k 0 small ∙ get_or-drop a xs k 0
