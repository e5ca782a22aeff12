-- Serial numbers count from 1, places in a list from 0.
use Rattle.std.proofs.Common.{ℕ, zero, suc, ◌+◌, ◌-◌, ◌<◌, ◌≤◌, ◌≡◌, refl, sym, ◌∙◌, ap, Bool, true, false, cond, List, [], ◌∷◌, ◌++◌, take, get_or, length}
use Rattle.std.proofs.Common.{Option, Some, None, IsSome, slice_get, slice_set, arith}
use Rattle.std.specs.Prelude.{◌==◌, option_to_list}
use Rattle.std.specs.List.{filter_map}
use Rattle.std.proofs.lemmas.List.{take_more}
use Rattle.std.proofs.lemmas.List.Elements.{filter_map-append}
use Rattle.std.proofs.lemmas.Bool.Decides.{nat_tests}
use Rattle.flat_scene.specs.Draft.{of_serial, changed_at}

module _ {A : Type 0} where
  pub of_serial-suc : (xs : List A) (i : ℕ) → of_serial xs (suc i) ≡ slice_get xs i
  of_serial-suc [] i = refl
  of_serial-suc (x ∷ xs) zero = refl
  of_serial-suc (x ∷ xs) (suc i) =
      let test : (suc (suc i) == 1) ≡ false = grind (arith, nat_tests) in
      let less : suc (suc i) - 1 ≡ suc i = omega arith in
      rw (test, less) (of_serial-suc xs i)

  pub of_serial-zero : (xs : List A) → of_serial xs 0 ≡ None
  of_serial-zero [] = refl
  of_serial-zero (x ∷ xs) = of_serial-zero xs

  pub of_serial-place : (xs : List A) (serial : ℕ) → 1 ≤ serial → of_serial xs serial ≡ slice_get xs (serial - 1)
  of_serial-place xs zero h = absurd (omega arith)
  of_serial-place xs (suc i) h = let less : suc i - 1 ≡ i = omega arith in rw less (of_serial-suc xs i)

  changed-suc : (xs : List A) (i : ℕ) (y : A) → changed_at (suc i) (λ _. y) xs ≡ slice_set xs i y
  changed-suc [] i y = refl
  changed-suc (x ∷ xs) zero y = refl
  changed-suc (x ∷ xs) (suc i) y =
      let test : (suc (suc i) == 1) ≡ false = grind (arith, nat_tests) in
      let less : suc (suc i) - 1 ≡ suc i = omega arith in
      rw (test, less) (ap (λ (rest : List A). x ∷ rest) (changed-suc xs i y))

  -- putting another item in the place of a serial
  pub changed-place : (xs : List A) (serial : ℕ) (y : A) → 1 ≤ serial → slice_set xs (serial - 1) y ≡ changed_at serial (λ _. y) xs
  changed-place xs zero y h = absurd (omega arith)
  changed-place xs (suc i) y h = let less : suc i - 1 ≡ i = omega arith in rw less (sym (changed-suc xs i y))

  -- each number up to the length is a serial
  pub of_serial-some : (xs : List A) (serial : ℕ) → 1 ≤ serial → serial ≤ length xs → IsSome (of_serial xs serial)
  of_serial-some xs serial low high =
      let within : serial - 1 < length xs = omega arith in
      rw (of_serial-place xs serial low) (get-some xs (serial - 1) within)
    where
      get-some : (xs : List A) (i : ℕ) → i < length xs → IsSome (slice_get xs i)
      get-some [] i h = absurd (omega arith)
      get-some (x ∷ xs) zero h = refl
      get-some (x ∷ xs) (suc i) h = let less : i < length xs = omega arith in get-some xs i less

  -- two changes that do the same to the item of a serial
  pub changed-alike : (xs : List A) (serial : ℕ) (f g : A → A) (x : A) → of_serial xs serial ≡ Some x → f x ≡ g x
      → changed_at serial f xs ≡ changed_at serial g xs
  changed-alike [] serial f g x there same = refl
  changed-alike (y ∷ xs) serial f g x there same = by_test (serial == 1) there (changed-alike xs (serial - 1) f g x)
    where
      by_test : (b : Bool) → cond b (Some y) (of_serial xs (serial - 1)) ≡ Some x
          → (of_serial xs (serial - 1) ≡ Some x → f x ≡ g x → changed_at (serial - 1) f xs ≡ changed_at (serial - 1) g xs)
          → cond b (f y ∷ xs) (y ∷ changed_at (serial - 1) f xs) ≡ cond b (g y ∷ xs) (y ∷ changed_at (serial - 1) g xs)
      by_test true is more = let it : y ≡ x = cc in ap (λ (z : A). z ∷ xs) (rw it same)
      by_test false is more = ap (λ (rest : List A). y ∷ rest) (more is same)

filter-single : {X Y : Type 0} (f : X → Option Y) (x : X) → filter_map f (x ∷ []) ≡ option_to_list (f x)
filter-single {Y = Y} f x = by_value (f x) refl
  where
    by_value : (o : Option Y) → f x ≡ o → filter_map f (x ∷ []) ≡ option_to_list (f x)
    by_value None e = rw e refl
    by_value (Some y) e = rw e refl

-- what one item more gives
pub filter-more : {X Y : Type 0} (f : X → Option Y) (xs : List X) (i : ℕ) (d : X) → i < length xs
    → filter_map f (take (i + 1) xs) ≡ filter_map f (take i xs) ++ option_to_list (f (get_or xs i d))
filter-more {Y = Y} f xs i d h =
    ap (filter_map f) (take_more xs i d h) ∙ filter_map-append f (take i xs) (get_or xs i d ∷ [])
    ∙ ap (λ (ys : List Y). filter_map f (take i xs) ++ ys) (filter-single f (get_or xs i d))
