-- A number stands twice in a list exactly if its sorted permutation doesn't rise from each number to the next.
use Rattle.std.proofs.Common.{ℕ, ◌+◌, ◌≡◌, refl, sym, Bool, true, false, not, List, [], ◌∷◌, length, IsPermutation, arith, nat_lt}
use Rattle.std.specs.Prelude.{◌==◌, eqb}
use Rattle.std.specs.List.{AllByRecursion, IsDistinct, IsAllAdjacentAnswer, AllAdjacentBelow, list_any}
use Rattle.std.specs.List.Sorted.{IsSorted, IsNonDecreasing}
use Rattle.std.specs.Ordering.{nat_cmp}
use Rattle.std.proofs.lemmas.List.Sorted.{IsPermutation-sym, IsNonDecreasingBy-from_sort}
use Rattle.std.proofs.lemmas.Map.Keys.{IsDistinct-IsPermutation, IsDistinct-from_apart, IsDistinct-cons, IsDistinct-head, IsDistinct-tail}
use Rattle.std.proofs.lemmas.Map.Keys.{IsStrictlyIncreasing-from_distinct}
use Rattle.flat_scene.specs.Misuse.{has_twice}

absent : (x : ℕ) (xs : List ℕ) → AllByRecursion (λ y. eqb x y ≡ false) xs → list_any (λ y. x == y) xs ≡ false
absent x [] all = refl
absent x (y ∷ ys) all = rw (all.0, absent x ys all.1) refl

all_differ : (x : ℕ) (xs : List ℕ) → list_any (λ y. x == y) xs ≡ false → AllByRecursion (λ y. eqb x y ≡ false) xs
all_differ x [] none = tt
all_differ x (y ∷ ys) none =
    let head : eqb x y ≡ false = grind (arith, none) in
    let tail : list_any (λ z. x == z) ys ≡ false = grind (arith, none) in
    (head, all_differ x ys tail)

-- numbers that all differ, and numbers of which none stands twice, are the same
once_from_distinct : (xs : List ℕ) → IsDistinct eqb xs → has_twice xs ≡ false
once_from_distinct [] apart = refl
once_from_distinct (x ∷ xs) apart = rw (absent x xs (IsDistinct-head eqb x xs apart), once_from_distinct xs (IsDistinct-tail eqb x xs apart)) refl

distinct_from_once : (xs : List ℕ) → has_twice xs ≡ false → IsDistinct eqb xs
unfolding IsDistinct
distinct_from_once [] once = tt
distinct_from_once (x ∷ xs) once =
    let head : list_any (λ y. x == y) xs ≡ false = grind (arith, once) in
    let tail : has_twice xs ≡ false = grind (arith, once) in
    IsDistinct-cons eqb x xs (all_differ x xs head) (distinct_from_once xs tail)

flips : (x y : ℕ) → eqb x y ≡ eqb y x
flips x y = grind arith

-- sorted numbers that rise from each to the next all differ
distinct_from_rising : (ys : List ℕ) → IsSorted nat_cmp ys → AllAdjacentBelow (λ x y. true ≡ nat_lt x y) ys (length ys) → IsDistinct eqb ys
distinct_from_rising ys sorted rising =
    let up : IsNonDecreasing ys = IsNonDecreasingBy-from_sort (λ x. x) ys sorted in
    IsDistinct-from_apart eqb ys (λ i j d before within.
    let step = rising i d (omega (arith, before, within)) in
    let far = up (i + 1) j d (omega (arith, before)) within in
    grind (arith, step, far))

pub twice_from_sorted : (xs ys : List ℕ) (rises : Bool) → IsPermutation xs ys → IsSorted nat_cmp ys → IsAllAdjacentAnswer (λ x y b. b ≡ nat_lt x y) ys rises
    → not rises ≡ has_twice xs
twice_from_sorted xs ys true moved sorted rising = sym
    (once_from_distinct xs (IsDistinct-IsPermutation eqb flips ys xs (IsPermutation-sym xs ys moved) (distinct_from_rising ys sorted rising)))
twice_from_sorted xs ys false moved sorted falls = by_twice (has_twice xs) refl
  where
    by_twice : (twice : Bool) → has_twice xs ≡ twice → true ≡ twice
    by_twice true e = refl
    by_twice false e =
        let up : IsNonDecreasing ys = IsNonDecreasingBy-from_sort (λ x. x) ys sorted in
        let step = IsStrictlyIncreasing-from_distinct ys up (IsDistinct-IsPermutation eqb flips xs ys moved (distinct_from_once xs e)) falls.0 falls.1 in
        let stays = falls.2 0 in
        absurd (grind (arith, step, stays))
