-- What the lines of all probes saw, sorted by probe.
use Rattle.std.proofs.Common.{◌≡◌, ◌≢◌, ℕ, zero, suc, ◌+◌, ◌-◌, ◌<◌, ◌≤◌, ◌||◌, ◌==◌, Bool, true, false, cond, List, [], ◌∷◌, ◌++◌, length}
use Rattle.std.proofs.Common.{filter, take, drop, append-nil, length-append, refl, sym, ap, ◌∙◌, subst, arith}
use Rattle.std.specs.List.{flat_map, list_all, list_any, zip, range_with_len}
use Rattle.std.proofs.lemmas.Bool.{and_parts, and_from, eq-eqb, eqb-true}
use Rattle.std.proofs.lemmas.List.{take-append-drop}
use Rattle.std.proofs.lemmas.List.Concat.{flat_map-append}
use Rattle.std.proofs.lemmas.Grind.{common_steps}

agree : (f g : ℕ → List ℕ) (k count : ℕ) → ((n : ℕ) → k ≤ n → f n ≡ g n) → flat_map f (range_with_len k count) ≡ flat_map g (range_with_len k count)
agree f g k zero same = refl
agree f g k (suc count) same =
    let here = same k (omega arith) in
    let later = agree f g (k + 1) count (λ n upto. same n (omega (arith, upto))) in
    (λ i. here i ++ later i)

none-append : {X : Type 0} (p : X → Bool) (xs ys : List X) → list_any p xs ≡ false → list_any p ys ≡ false → list_any p (xs ++ ys) ≡ false
none-append p [] ys first later = later
none-append p (x ∷ xs) ys first later = by (p x) first (none-append p xs ys)
  where
    by : (b : Bool) → (b || list_any p xs) ≡ false → (list_any p xs ≡ false → list_any p ys ≡ false → list_any p (xs ++ ys) ≡ false)
        → (b || list_any p (xs ++ ys)) ≡ false
    by true first rest = absurd (let wrong : true ≡ false = first in cc)
    by false first rest = rest first later

zip-behind : {X : Type 0} (xs ys : List X) (s t : List ℕ) → length s ≡ length xs → zip (xs ++ ys) (s ++ t) ≡ zip xs s ++ zip ys t
zip-behind [] ys [] t many = refl
zip-behind [] ys (n ∷ s) t many = absurd (omega (arith, many))
zip-behind (x ∷ xs) ys [] t many = absurd (omega (arith, many))
zip-behind (x ∷ xs) ys (n ∷ s) t many = ap (λ ps. (x, n) ∷ ps) (zip-behind xs ys s t (omega (arith, many)))

module _ {X : Type 0} (is : ℕ → X → Bool) where
  abbrev pub select : ℕ → List (X × ℕ) → List ℕ
  select n pairs = flat_map (λ pair. cond (is n pair.0) (pair.1 ∷ []) []) pairs

  abbrev pub all_of : ℕ → ℕ → List X → List X
  all_of k count lines = flat_map (λ n. filter (is n) lines) (range_with_len k count)

  select-none : (n : ℕ) (lines : List X) (seen : List ℕ) → list_any (is n) lines ≡ false → select n (zip lines seen) ≡ []
  select-none n [] seen none = refl
  select-none n (x ∷ lines) [] none = refl
  select-none n (x ∷ lines) (f ∷ seen) none = by (is n x) none (select-none n lines seen)
    where
      by : (b : Bool) → (b || list_any (is n) lines) ≡ false → (list_any (is n) lines ≡ false → select n (zip lines seen) ≡ [])
          → cond b (f ∷ []) [] ++ select n (zip lines seen) ≡ []
      by true none rest = absurd (let wrong : true ≡ false = none in cc)
      by false none rest = rest none

  select-all : (n : ℕ) (lines : List X) (seen : List ℕ) → list_all (is n) lines ≡ true → length seen ≡ length lines → select n (zip lines seen) ≡ seen
  select-all n [] [] all many = refl
  select-all n [] (f ∷ seen) all many = absurd (omega (arith, many))
  select-all n (x ∷ lines) [] all many = absurd (omega (arith, many))
  select-all n (x ∷ lines) (f ∷ seen) all many =
      let parts = and_parts (is n x) (list_all (is n) lines) all in
      let rest = select-all n lines seen parts.1 (omega (arith, many)) in
      (λ i. cond (parts.0 i) (f ∷ []) [] ++ rest i)

  all-own : (n : ℕ) (lines : List X) → list_all (is n) (filter (is n) lines) ≡ true
  all-own n [] = refl
  all-own n (x ∷ lines) = by (is n x) refl (all-own n lines)
    where
      by : (b : Bool) → is n x ≡ b → list_all (is n) (filter (is n) lines) ≡ true
          → list_all (is n) (cond b (x ∷ filter (is n) lines) (filter (is n) lines)) ≡ true
      by true here rest = and_from (is n x) (list_all (is n) (filter (is n) lines)) here rest
      by false here rest = rest

  -- each item is one's
  module _ (one : (m n : ℕ) (x : X) → is m x ≡ true → is n x ≡ true → m ≡ n) where
    none-own : (n k : ℕ) (lines : List X) → n ≢ k → list_any (is n) (filter (is k) lines) ≡ false
    none-own n k [] other = refl
    none-own n k (x ∷ lines) other = by (is k x) refl (none-own n k lines other)
      where
        not-both : (b : Bool) → is n x ≡ b → is k x ≡ true → b ≡ false
        not-both true too here = absurd (other (one n k x too here))
        not-both false other_one here = refl

        by : (b : Bool) → is k x ≡ b → list_any (is n) (filter (is k) lines) ≡ false
            → list_any (is n) (cond b (x ∷ filter (is k) lines) (filter (is k) lines)) ≡ false
        by true here rest = let apart : is n x ≡ false = not-both (is n x) refl here in rw apart rest
        by false here rest = rest

    none-later : (n k count : ℕ) (lines : List X) → n < k → list_any (is n) (all_of k count lines) ≡ false
    none-later n k zero lines before = refl
    none-later n k (suc count) lines before =
        none-append (is n) (filter (is k) lines) (all_of (k + 1) count lines) (none-own n k lines (λ same. omega (arith, same, before)))
        (none-later n (k + 1) count lines (omega (arith, before)))

    module _ (k count : ℕ) (lines : List X) (seen : List ℕ) (many : length seen ≡ length (all_of k (suc count) lines)) where
      abbrev few : ℕ
      few = length (filter (is k) lines)

      both : length seen ≡ few + length (all_of (k + 1) count lines)
      both = many ∙ length-append (filter (is k) lines) (all_of (k + 1) count lines)

      first-many : length (take few seen) ≡ few
      first-many = let all = both in let low : few ≤ length seen = omega (arith, all) in grind (arith, common_steps)

      pub rest-many : length (drop few seen) ≡ length (all_of (k + 1) count lines)
      rest-many = let all = both in let rest : length (drop few seen) ≡ length seen - few = grind (arith, common_steps) in omega (arith, all, rest)

      cut : zip (all_of k (suc count) lines) seen ≡ zip (filter (is k) lines) (take few seen) ++ zip (all_of (k + 1) count lines) (drop few seen)
      cut = ap (zip (all_of k (suc count) lines)) (sym (take-append-drop few seen))
          ∙ zip-behind (filter (is k) lines) (all_of (k + 1) count lines) (take few seen) (drop few seen) first-many

      pub select-cut : (n : ℕ) → select n (zip (all_of k (suc count) lines) seen) ≡ select n (zip (filter (is k) lines) (take few seen))
          ++ select n (zip (all_of (k + 1) count lines) (drop few seen))
      select-cut n = ap (select n) cut ∙ flat_map-append (λ (pair : X × ℕ). cond (is n pair.0) (pair.1 ∷ []) []) (zip (filter (is k) lines) (take few seen))
          (zip (all_of (k + 1) count lines) (drop few seen))

      pub select-here : select k (zip (all_of k (suc count) lines) seen) ≡ take few seen
      select-here =
          let mine = select-all k (filter (is k) lines) (take few seen) (all-own k lines) first-many in
          let others = select-none k (all_of (k + 1) count lines) (drop few seen) (none-later k (k + 1) count lines (omega arith)) in
          select-cut k ∙ (λ i. mine i ++ others i) ∙ append-nil (take few seen)

      pub select-later : (n : ℕ) → n ≢ k → select n (zip (all_of k (suc count) lines) seen) ≡ select n (zip (all_of (k + 1) count lines) (drop few seen))
      select-later n other =
          select-cut n ∙ ap (λ (s : List ℕ). s ++ select n (zip (all_of (k + 1) count lines) (drop few seen)))
          (select-none n (filter (is k) lines) (take few seen) (none-own n k lines other))

      pub select-many : length (select k (zip (all_of k (suc count) lines) seen)) ≡ length (filter (is k) lines)
      select-many = ap length select-here ∙ first-many

    -- what all lines saw is what those of each saw, one after the other
    pub selected : (k count : ℕ) (lines : List X) (seen : List ℕ) → length seen ≡ length (all_of k count lines)
        → flat_map (λ n. select n (zip (all_of k count lines) seen)) (range_with_len k count) ≡ seen
    selected k zero lines [] many = refl
    selected k zero lines (f ∷ seen) many = absurd (omega (arith, many))
    selected k (suc count) lines seen many =
        let m = length (filter (is k) lines) in
        let here = select-here k count lines seen many in
        let later = agree (λ n. select n (zip (all_of k (suc count) lines) seen)) (λ n. select n (zip (all_of (k + 1) count lines) (drop m seen))) (k + 1) count
        (λ n above. select-later k count lines seen many n (λ same. omega (arith, same, above))) in
        let rest = selected (k + 1) count lines (drop m seen) (rest-many k count lines seen many) in
        (λ i. here i ++ (later ∙ rest) i) ∙ take-append-drop m seen

    -- and each saw as many as it has lines
    pub as-many : (k count : ℕ) (lines : List X) (seen : List ℕ) → length seen ≡ length (all_of k count lines) → (n : ℕ) → k ≤ n → n < k + count
        → length (select n (zip (all_of k count lines) seen)) ≡ length (filter (is n) lines)
    as-many k zero lines seen many n low high = absurd (omega (arith, low, high))
    as-many k (suc count) lines seen many n low high = by (n == k) refl
        (as-many (k + 1) count lines (drop (length (filter (is k) lines)) seen) (rest-many k count lines seen many) n)
      where
        m : ℕ
        m = length (filter (is k) lines)

        by : (b : Bool) → (n == k) ≡ b → (k + 1 ≤ n → n < k + 1 + count
            → length (select n (zip (all_of (k + 1) count lines) (drop m seen))) ≡ length (filter (is n) lines))
            → length (select n (zip (all_of k (suc count) lines) seen)) ≡ length (filter (is n) lines)
        by true same rest =
            let here : k ≡ n = sym (eqb-true n k same) in
            let P : ℕ → Type 0 = λ j. length (select j (zip (all_of k (suc count) lines) seen)) ≡ length (filter (is j) lines) in
            subst P here (select-many k count lines seen many)
        by false other rest =
            let apart : n ≢ k = (λ same. let yes : (n == k) ≡ true = eq-eqb n k same in let both : true ≡ false = sym yes ∙ other in absurd (cc)) in
            let above : k + 1 ≤ n = omega (arith, low, apart) in
            ap length (select-later k count lines seen many n apart) ∙ rest above (omega (arith, high))
