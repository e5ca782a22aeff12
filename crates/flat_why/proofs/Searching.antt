-- A search through a list, item by item.
use Rattle.std.proofs.Common.{ℕ, zero, suc, ◌+◌, ◌<◌, ◌≤◌, ◌≡◌, refl, sym, ap, ◌∙◌, Bool, true, false, ◌||◌, List, [], ◌∷◌, length, take, get_or, cond, Some}
use Rattle.std.proofs.Common.{None, slice_get, add-one, arith}
use Rattle.std.specs.List.{list_any}
use Rattle.std.specs.Prelude.{find}
use Rattle.std.proofs.lemmas.List.{take_all}

pub any-at : {A : Type 0} (test : A → Bool) (xs : List A) (i : ℕ) (x : A) → slice_get xs i ≡ Some x → test x ≡ true → list_any test xs ≡ true
any-at test [] i x at passes = absurd (cc)
any-at test (y ∷ ys) zero x at passes = let same : y ≡ x = cc in rw (same, passes) refl
any-at test (y ∷ ys) (suc i) x at passes = or-true-right (test y) (any-at test ys i x at passes)
  where
    or-true-right : (b : Bool) → list_any test ys ≡ true → (b || list_any test ys) ≡ true
    or-true-right true later = refl
    or-true-right false later = later

none-next : {A : Type 0} (test : A → Bool) (xs : List A) (i : ℕ) (x : A) → slice_get xs i ≡ Some x → list_any test (take i xs) ≡ false → test x ≡ false
    → list_any test (take (suc i) xs) ≡ false
none-next test [] i x at before fails = absurd (cc)
none-next test (y ∷ ys) zero x at before fails = let same : y ≡ x = cc in rw (same, fails) refl
none-next test (y ∷ ys) (suc i) x at before fails = by (test y) before (λ none. none-next test ys i x at none fails)
  where
    by : (b : Bool) → (b || list_any test (take i ys)) ≡ false → (list_any test (take i ys) ≡ false → list_any test (take (suc i) ys) ≡ false)
        → (b || list_any test (take (suc i) ys)) ≡ false
    by true wrong later = absurd (cc)
    by false none later = later none

pub none-more : {A : Type 0} (test : A → Bool) (xs : List A) (i : ℕ) (x : A) → slice_get xs i ≡ Some x → list_any test (take i xs) ≡ false → test x ≡ false
    → list_any test (take (i + 1) xs) ≡ false
none-more test xs i x at before fails = ap (λ n. list_any test (take n xs)) (add-one i) ∙ none-next test xs i x at before fails

pub none-all : {A : Type 0} (test : A → Bool) (xs : List A) (i : ℕ) → length xs ≤ i → list_any test (take i xs) ≡ false → list_any test xs ≡ false
none-all test xs i all none = ap (list_any test) (sym (take_all i xs all)) ∙ none

pub none-first : {A : Type 0} (test : A → Bool) (xs : List A) → list_any test (take 0 xs) ≡ false
none-first test [] = refl
none-first test (x ∷ xs) = refl

-- ---- the first that passes

pub found-or : {A : Type 0} (test : A → Bool) (xs : List A) (i : ℕ) (d : A) → i < length xs → find test (take i xs) ≡ None → test (get_or xs i d) ≡ true
    → find test xs ≡ Some (get_or xs i d)
found-or test [] i d low none passes = absurd (omega (arith, low))
found-or test (y ∷ ys) zero d low none passes = rw passes refl
found-or test (y ∷ ys) (suc i) d low none passes = by (test y) none (λ none. found-or test ys i d (omega (arith, low)) none passes)
  where
    by : (b : Bool) → cond b (Some y) (find test (take i ys)) ≡ None → (find test (take i ys) ≡ None → find test ys ≡ Some (get_or ys i d))
        → cond b (Some y) (find test ys) ≡ Some (get_or ys i d)
    by true wrong later = absurd (cc)
    by false none later = later none

missed-next : {A : Type 0} (test : A → Bool) (xs : List A) (i : ℕ) (d : A) → i < length xs → find test (take i xs) ≡ None → test (get_or xs i d) ≡ false
    → find test (take (suc i) xs) ≡ None
missed-next test [] i d low none fails = absurd (omega (arith, low))
missed-next test (y ∷ ys) zero d low none fails = rw fails refl
missed-next test (y ∷ ys) (suc i) d low none fails = by (test y) none (λ none. missed-next test ys i d (omega (arith, low)) none fails)
  where
    by : (b : Bool) → cond b (Some y) (find test (take i ys)) ≡ None → (find test (take i ys) ≡ None → find test (take (suc i) ys) ≡ None)
        → cond b (Some y) (find test (take (suc i) ys)) ≡ None
    by true wrong later = absurd (cc)
    by false none later = later none

pub missed-or : {A : Type 0} (test : A → Bool) (xs : List A) (i : ℕ) (d : A) → i < length xs → find test (take i xs) ≡ None → test (get_or xs i d) ≡ false
    → find test (take (i + 1) xs) ≡ None
missed-or test xs i d low none fails = ap (λ n. find test (take n xs)) (add-one i) ∙ missed-next test xs i d low none fails
