-- A draft's names and serials: what is found after one is added, changed or taken away.
use Rattle.std.proofs.Common.{ℕ, suc, ◌+◌, ◌-◌, ◌≤◌, ◌≡◌, ◌≢◌, refl, sym, ◌∙◌, ap, Bool, true, false, cond, not, List, [], ◌∷◌, ◌++◌, map, length, Option, Some}
use Rattle.std.proofs.Common.{None, arith}
use Rattle.std.specs.Prelude.{◌==◌, is_some}
use Rattle.std.specs.Option.{option_map}
use Rattle.std.proofs.lemmas.Bool.Decides.{nat_tests}
use Rattle.flat_scene.specs.Draft.{Name, named, without_name, of_serial, changed_at}
use Rattle.flat_graph.specs.Stands.{IsOnce}
use Rattle.flat_graph.proofs.lemmas.NameLemmas.{both-first}

-- ---- names

first-other : (b : Bool) (id : ℕ) (m : Name) (ms : List Name) → b ≡ (m.id == id) → cond b (Some m.serial) (named ms id) ≡ None
    → (m.id ≢ id) × (named ms id ≡ None)
first-other true id m ms e none = absurd (cc)
first-other false id m ms e none = (grind (arith, nat_tests), none)

not-first : (id : ℕ) (m : Name) (ms : List Name) → named (m ∷ ms) id ≡ None → (m.id ≢ id) × (named ms id ≡ None)
not-first id m ms none = first-other (m.id == id) id m ms refl none

pub named-append : (names : List Name) (n : Name) (other : ℕ) → named names n.id ≡ None
    → named (names ++ n ∷ []) other ≡ cond (n.id == other) (Some n.serial) (named names other)
named-append [] n other none = refl
named-append (m ∷ ms) n other none =
    let apart = not-first n.id m ms none in
    rw (named-append ms n other apart.1) (both-first (n.id == other) (m.id == other) n.id m.id other (Some n.serial) (Some m.serial) (named ms other) refl refl
    (λ same. apart.0 (sym same)))

pub once-append : (names : List Name) (n : Name) → named names n.id ≡ None → IsOnce names → IsOnce (names ++ n ∷ [])
once-append [] n none once = (refl, tt)
once-append (m ∷ ms) n none once =
    let apart = not-first n.id m ms none in
    (named-append ms n m.id apart.1 ∙ by_test (n.id == m.id) refl apart.0 once.0, once-append ms n apart.1 once.1)
  where
    by_test : (b : Bool) → (n.id == m.id) ≡ b → m.id ≢ n.id → named ms m.id ≡ None → cond b (Some n.serial) (named ms m.id) ≡ None
    by_test true e apart none = absurd (apart (grind (arith, nat_tests)))
    by_test false e apart none = none

both-but : (b c : Bool) (id other : ℕ) (m : Name) (ms : List Name) → b ≡ (m.id == id) → c ≡ (m.id == other)
    → named (without_name id ms) other ≡ cond (id == other) None (named ms other)
    → named (cond (not b) (m ∷ without_name id ms) (without_name id ms)) other ≡ cond (id == other) None (cond c (Some m.serial) (named ms other))
both-but true true id other m ms e f more =
    let is : (id == other) ≡ true = grind (arith, nat_tests) in
    rw (more, is) refl
both-but true false id other m ms e f more = more
both-but false true id other m ms e f more =
    let is : (id == other) ≡ false = grind (arith, nat_tests) in
    rw (← f, is) refl
both-but false false id other m ms e f more = rw (← f) more

pub named-without : (id : ℕ) (names : List Name) (other : ℕ) → named (without_name id names) other ≡ cond (id == other) None (named names other)
named-without id [] other = by_same (id == other)
  where
    by_same : (b : Bool) → ◌≡◌ {A = Option ℕ} None (cond b None None)
    by_same true = refl
    by_same false = refl
named-without id (m ∷ ms) other = both-but (m.id == id) (m.id == other) id other m ms refl refl (named-without id ms other)

pub once-without : (id : ℕ) (names : List Name) → IsOnce names → IsOnce (without_name id names)
once-without id [] once = tt
once-without id (m ∷ ms) once = by_test (m.id == id) (once-without id ms once.1)
  where
    none : (b : Bool) → cond b None (named ms m.id) ≡ None
    none true = refl
    none false = once.0

    by_test : (c : Bool) → IsOnce (without_name id ms) → IsOnce (cond (not c) (m ∷ without_name id ms) (without_name id ms))
    by_test true more = more
    by_test false more = (named-without id ms m.id ∙ none (id == m.id), more)

absent-without : (id : ℕ) (names : List Name) → named names id ≡ None → without_name id names ≡ names
absent-without id [] none = refl
absent-without id (m ∷ ms) none = by_test (m.id == id) refl none (absent-without id ms)
  where
    by_test : (c : Bool) → (m.id == id) ≡ c → cond c (Some m.serial) (named ms id) ≡ None → (named ms id ≡ None → without_name id ms ≡ ms)
        → cond (not c) (m ∷ without_name id ms) (without_name id ms) ≡ m ∷ ms
    by_test true e none more = absurd (cc)
    by_test false e none more = ap (λ (rest : List Name). m ∷ rest) (more none)

pub length-without : (id : ℕ) (names : List Name) → IsOnce names → length (without_name id names) + cond (is_some (named names id)) 1 0 ≡ length names
length-without id [] once = refl
length-without id (m ∷ ms) once = by_test (m.id == id) refl (length-without id ms once.1)
  where
    by_test : (c : Bool) → (m.id == id) ≡ c → length (without_name id ms) + cond (is_some (named ms id)) 1 0 ≡ length ms
        → length (cond (not c) (m ∷ without_name id ms) (without_name id ms)) + cond (is_some (cond c (Some m.serial) (named ms id))) 1 0 ≡ length (m ∷ ms)
    by_test true e more =
        let same : m.id ≡ id = grind (arith, nat_tests) in
        rw (absent-without id ms (rw same at once.0)) (omega arith)
    by_test false e more = omega (arith, more)

-- ---- serials

module _ {A : Type 0} where
  -- what was made stays where it was
  pub of_serial-append : (xs : List A) (y x : A) (serial : ℕ) → of_serial xs serial ≡ Some x → of_serial (xs ++ y ∷ []) serial ≡ Some x
  of_serial-append [] y x serial e = absurd (cc)
  of_serial-append (z ∷ xs) y x serial e = by_test (serial == 1) e (of_serial-append xs y x (serial - 1))
    where
      by_test : (b : Bool) → cond b (Some z) (of_serial xs (serial - 1)) ≡ Some x
          → (of_serial xs (serial - 1) ≡ Some x → of_serial (xs ++ y ∷ []) (serial - 1) ≡ Some x)
          → cond b (Some z) (of_serial (xs ++ y ∷ []) (serial - 1)) ≡ Some x
      by_test true e more = e
      by_test false e more = more e

  last-test : (b : Bool) (n : ℕ) (x y : A) (rest : Option A) → b ≡ (n == 1) → ((n ≡ 1) → x ≡ y) → (n ≢ 1 → rest ≡ Some y) → cond b (Some x) rest ≡ Some y
  last-test true n x y rest e first more = ap Some (first (grind (arith, nat_tests)))
  last-test false n x y rest e first more = more (grind (arith, nat_tests))

  pub of_serial-last : (xs : List A) (y : A) (serial : ℕ) → serial ≡ length xs + 1 → of_serial (xs ++ y ∷ []) serial ≡ Some y
  of_serial-last [] y serial e = last-test (serial == 1) serial y y None refl (λ same. refl) (λ apart. absurd (apart (omega arith)))
  of_serial-last (z ∷ xs) y serial e =
      last-test (serial == 1) serial z y (of_serial (xs ++ y ∷ []) (serial - 1)) refl (λ same. absurd (omega arith))
      (λ apart. of_serial-last xs y (serial - 1) (omega arith))

  low-test : (b : Bool) (n : ℕ) (xs : List A) (z x : A) → b ≡ (n == 1) → cond b (Some z) (of_serial xs (n - 1)) ≡ Some x
      → (of_serial xs (n - 1) ≡ Some x → n - 1 ≤ length xs) → n ≤ suc (length xs)
  low-test true n xs z x e h more = let same : n ≡ 1 = grind (arith, nat_tests) in omega arith
  low-test false n xs z x e h more = let low : n - 1 ≤ length xs = more h in omega arith

  -- serials are those of the list
  pub of_serial-low : (xs : List A) (x : A) (serial : ℕ) → of_serial xs serial ≡ Some x → serial ≤ length xs
  of_serial-low [] x serial e = absurd (cc)
  of_serial-low (z ∷ xs) x serial e = low-test (serial == 1) serial xs z x refl e (of_serial-low xs x (serial - 1))

  pub changed-length : (serial : ℕ) (f : A → A) (xs : List A) → length (changed_at serial f xs) ≡ length xs
  changed-length serial f [] = refl
  changed-length serial f (x ∷ xs) = by_test (serial == 1) (changed-length (serial - 1) f xs)
    where
      by_test : (b : Bool) → length (changed_at (serial - 1) f xs) ≡ length xs → length (cond b (f x ∷ xs) (x ∷ changed_at (serial - 1) f xs)) ≡ length (x ∷ xs)
      by_test true more = refl
      by_test false more = omega (arith, more)

  pub changed-same : (serial : ℕ) (f : A → A) (xs : List A) (x : A) → of_serial xs serial ≡ Some x → of_serial (changed_at serial f xs) serial ≡ Some (f x)
  changed-same serial f [] x e = absurd (cc)
  changed-same serial f (y ∷ xs) x e = by_test (serial == 1) refl e (changed-same (serial - 1) f xs x)
    where
      by_test : (b : Bool) → (serial == 1) ≡ b → cond b (Some y) (of_serial xs (serial - 1)) ≡ Some x
          → (of_serial xs (serial - 1) ≡ Some x → of_serial (changed_at (serial - 1) f xs) (serial - 1) ≡ Some (f x))
          → of_serial (cond b (f y ∷ xs) (y ∷ changed_at (serial - 1) f xs)) serial ≡ Some (f x)
      by_test true is e more = let same : y ≡ x = cc in rw (is, same) refl
      by_test false is e more = rw is (more e)

  none-first : (xs : List A) → of_serial xs 0 ≡ None
  none-first [] = refl
  none-first (x ∷ xs) = none-first xs

  pub changed-other : (serial other : ℕ) (f : A → A) (xs : List A) → serial ≢ other → of_serial (changed_at serial f xs) other ≡ of_serial xs other
  changed-other serial other f [] apart = refl
  changed-other serial other f (y ∷ xs) apart = by_test (serial == 1) (other == 1) refl refl (changed-other (serial - 1) (other - 1) f xs)
    where
      -- two serials that both become 0 are 0 and 1, and 1 is the first
      at_zero : serial - 1 ≡ other - 1 → other ≢ 1 → other - 1 ≡ 0
      at_zero same not_first = omega (arith, apart)

      by_same : (b : Bool) → ((serial - 1) == (other - 1)) ≡ b → other ≢ 1
          → (serial - 1 ≢ other - 1 → of_serial (changed_at (serial - 1) f xs) (other - 1) ≡ of_serial xs (other - 1))
          → of_serial (changed_at (serial - 1) f xs) (other - 1) ≡ of_serial xs (other - 1)
      by_same true e not_first more =
          let zero : other - 1 ≡ 0 = at_zero (grind (arith, nat_tests)) not_first in
          rw zero (none-first (changed_at (serial - 1) f xs) ∙ sym (none-first xs))
      by_same false e not_first more = more (grind (arith, nat_tests))

      by_test : (b c : Bool) → (serial == 1) ≡ b → (other == 1) ≡ c
          → (serial - 1 ≢ other - 1 → of_serial (changed_at (serial - 1) f xs) (other - 1) ≡ of_serial xs (other - 1))
          → of_serial (cond b (f y ∷ xs) (y ∷ changed_at (serial - 1) f xs)) other ≡ cond c (Some y) (of_serial xs (other - 1))
      by_test true true e e' more = absurd (apart (grind (arith, nat_tests)))
      by_test true false e e' more = rw e' refl
      by_test false true e e' more = rw e' refl
      by_test false false e e' more = rw e' (by_same ((serial - 1) == (other - 1)) refl (grind (arith, nat_tests)) more)

pub of_serial-map : {A B : Type 0} (f : A → B) (xs : List A) (serial : ℕ) → of_serial (map f xs) serial ≡ option_map f (of_serial xs serial)
of_serial-map f [] serial = refl
of_serial-map f (x ∷ xs) serial = by_test (serial == 1) (of_serial-map f xs (serial - 1))
  where
    by_test : (b : Bool) → of_serial (map f xs) (serial - 1) ≡ option_map f (of_serial xs (serial - 1))
        → cond b (Some (f x)) (of_serial (map f xs) (serial - 1)) ≡ option_map f (cond b (Some x) (of_serial xs (serial - 1)))
    by_test true more = refl
    by_test false more = more
