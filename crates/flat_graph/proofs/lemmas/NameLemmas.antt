-- Names by rising id: how they are found, added and taken away.
use Rattle.std.proofs.Common.{ℕ, zero, suc, ◌+◌, ◌<◌, ◌≤◌, ◌≡◌, ◌≢◌, refl, sym, ap, Bool, true, false, cond, not, List, [], ◌∷◌, length, Option, Some, None}
use Rattle.std.proofs.Common.{IsSome, arith}
use Rattle.std.specs.Prelude.{◌==◌, nat_lt, is_some}
use Rattle.std.specs.List.{slice_get, slice_index_or, insert, remove}
use Rattle.std.specs.List.Sorted.{IsPartitionedBy, IsPartitionPoint}
use Rattle.std.proofs.lemmas.Bool.Decides.{nat_tests}
use Rattle.flat_graph.specs.declared.names.NamedNode.{NamedNode}
use Rattle.flat_graph.specs.Names.{key_if, key_named, names_but, names_with, IsBelowAll, IsRising, IsPlace}

-- ---- a name more

pub both-first : (b c : Bool) (n m other : ℕ) (x y rest : Option ℕ) → b ≡ (n == other) → c ≡ (m == other) → n ≢ m
    → cond c y (cond b x rest) ≡ cond b x (cond c y rest)
both-first true true n m other x y rest e f apart = absurd (apart (grind (arith, nat_tests)))
both-first true false n m other x y rest e f apart = refl
both-first false true n m other x y rest e f apart = refl
both-first false false n m other x y rest e f apart = refl

-- an id that isn't named is not that of the first name
first-other : (b : Bool) (id : ℕ) (m : NamedNode) (ms : List NamedNode) → b ≡ (m.id == id) → cond b (Some m.key) (key_named ms id) ≡ None
    → (m.id ≢ id) × (key_named ms id ≡ None)
first-other true id m ms e none = absurd (cc)
first-other false id m ms e none = (grind (arith, nat_tests), none)

not-first : (id : ℕ) (m : NamedNode) (ms : List NamedNode) → key_named (m ∷ ms) id ≡ None → (m.id ≢ id) × (key_named ms id ≡ None)
not-first id m ms none = first-other (m.id == id) id m ms refl none

pub named-with : (n : NamedNode) (names : List NamedNode) (other : ℕ) → key_named names n.id ≡ None
    → key_named (names_with n names) other ≡ cond (n.id == other) (Some n.key) (key_named names other)
named-with n [] other none = refl
named-with n (m ∷ ms) other none = by_order (nat_lt n.id m.id) (not-first n.id m ms none) (named-with n ms other)
  where
    by_order : (b : Bool) → (m.id ≢ n.id) × (key_named ms n.id ≡ None)
        → (key_named ms n.id ≡ None → key_named (names_with n ms) other ≡ cond (n.id == other) (Some n.key) (key_named ms other))
        → key_named (cond b (n ∷ m ∷ ms) (m ∷ names_with n ms)) other ≡ cond (n.id == other) (Some n.key) (key_named (m ∷ ms) other)
    by_order true apart more = refl
    by_order false apart more =
        rw (more apart.1)
        (both-first (n.id == other) (m.id == other) n.id m.id other (Some n.key) (Some m.key) (key_named ms other) refl refl (λ same. apart.0 (sym same)))

pub length-with : (n : NamedNode) (names : List NamedNode) → length (names_with n names) ≡ length names + 1
length-with n [] = refl
length-with n (m ∷ ms) = by_order (nat_lt n.id m.id) (length-with n ms)
  where
    by_order : (b : Bool) → length (names_with n ms) ≡ length ms + 1 → length (cond b (n ∷ m ∷ ms) (m ∷ names_with n ms)) ≡ length (m ∷ ms) + 1
    by_order true more = omega arith
    by_order false more = omega (arith, more)

below-lower : (a b : ℕ) (names : List NamedNode) → a < b → IsBelowAll b names → IsBelowAll a names
below-lower a b [] less below = tt
below-lower a b (m ∷ ms) less below = (omega (arith, less, below.0), below-lower a b ms less below.1)

below-with : (b : ℕ) (n : NamedNode) (names : List NamedNode) → b < n.id → IsBelowAll b names → IsBelowAll b (names_with n names)
below-with b n [] less below = (less, tt)
below-with b n (m ∷ ms) less below = by_order (nat_lt n.id m.id) (below-with b n ms less below.1)
  where
    by_order : (c : Bool) → IsBelowAll b (names_with n ms) → IsBelowAll b (cond c (n ∷ m ∷ ms) (m ∷ names_with n ms))
    by_order true more = (less, below)
    by_order false more = (below.0, more)

pub rising-with : (n : NamedNode) (names : List NamedNode) → key_named names n.id ≡ None → IsRising names → IsRising (names_with n names)
rising-with n [] none rising = (tt, tt)
rising-with n (m ∷ ms) none rising = by_order (nat_lt n.id m.id) refl (not-first n.id m ms none) (rising-with n ms)
  where
    by_order : (b : Bool) → nat_lt n.id m.id ≡ b → (m.id ≢ n.id) × (key_named ms n.id ≡ None)
        → (key_named ms n.id ≡ None → IsRising ms → IsRising (names_with n ms)) → IsRising (cond b (n ∷ m ∷ ms) (m ∷ names_with n ms))
    by_order true e apart more =
        let less : n.id < m.id = grind (arith, nat_tests) in
        ((less, below-lower n.id m.id ms less rising.0), rising)
    by_order false e apart more =
        let other : m.id ≢ n.id = apart.0 in
        let less : m.id < n.id = grind (arith, nat_tests) in
        (below-with m.id n ms less rising.0, more apart.1 rising.1)

-- ---- a name less

both-but : (b c : Bool) (id other : ℕ) (m : NamedNode) (ms : List NamedNode) → b ≡ (m.id == id) → c ≡ (m.id == other)
    → key_named (names_but id ms) other ≡ cond (id == other) None (key_named ms other)
    → key_named (cond (not b) (m ∷ names_but id ms) (names_but id ms)) other ≡ cond (id == other) None (cond c (Some m.key) (key_named ms other))
both-but true true id other m ms e f more =
    let same : id ≡ other = grind (arith, nat_tests) in
    let is : (id == other) ≡ true = grind (arith, nat_tests) in
    rw (more, is) refl
both-but true false id other m ms e f more = more
both-but false true id other m ms e f more =
    let is : (id == other) ≡ false = grind (arith, nat_tests) in
    rw (← f, is) refl
both-but false false id other m ms e f more = rw (← f) more

pub named-but : (id : ℕ) (names : List NamedNode) (other : ℕ) → key_named (names_but id names) other ≡ cond (id == other) None (key_named names other)
named-but id [] other = by_same (id == other)
  where
    by_same : (b : Bool) → ◌≡◌ {A = Option ℕ} None (cond b None None)
    by_same true = refl
    by_same false = refl
named-but id (m ∷ ms) other = both-but (m.id == id) (m.id == other) id other m ms refl refl (named-but id ms other)

below-but : (b id : ℕ) (names : List NamedNode) → IsBelowAll b names → IsBelowAll b (names_but id names)
below-but b id [] below = tt
below-but b id (m ∷ ms) below = by_test (m.id == id) (below-but b id ms below.1)
  where
    by_test : (c : Bool) → IsBelowAll b (names_but id ms) → IsBelowAll b (cond (not c) (m ∷ names_but id ms) (names_but id ms))
    by_test true more = more
    by_test false more = (below.0, more)

pub rising-but : (id : ℕ) (names : List NamedNode) → IsRising names → IsRising (names_but id names)
rising-but id [] rising = tt
rising-but id (m ∷ ms) rising = by_test (m.id == id) (rising-but id ms rising.1)
  where
    by_test : (c : Bool) → IsRising (names_but id ms) → IsRising (cond (not c) (m ∷ names_but id ms) (names_but id ms))
    by_test true more = more
    by_test false more = (below-but m.id id ms rising.0, more)

-- names that are all above an id: it is none of them
above-but : (b id : ℕ) (names : List NamedNode) → id ≤ b → IsBelowAll b names → names_but id names ≡ names
above-but b id [] low below = refl
above-but b id (m ∷ ms) low below = by_test (m.id == id) refl (above-but b id ms low below.1)
  where
    by_test : (c : Bool) → (m.id == id) ≡ c → names_but id ms ≡ ms → cond (not c) (m ∷ names_but id ms) (names_but id ms) ≡ m ∷ ms
    by_test true e more =
        let above : b < m.id = below.0 in
        let same : m.id ≡ id = grind (arith, nat_tests) in
        absurd (omega arith)
    by_test false e more = ap (λ (rest : List NamedNode). m ∷ rest) more

above-none : (b id : ℕ) (names : List NamedNode) → id ≤ b → IsBelowAll b names → key_named names id ≡ None
above-none b id [] low below = refl
above-none b id (m ∷ ms) low below = by_test (m.id == id) refl (above-none b id ms low below.1)
  where
    by_test : (c : Bool) → (m.id == id) ≡ c → key_named ms id ≡ None → cond c (Some m.key) (key_named ms id) ≡ None
    by_test true e more =
        let above : b < m.id = below.0 in
        let same : m.id ≡ id = grind (arith, nat_tests) in
        absurd (omega arith)
    by_test false e more = more

pub length-but : (id : ℕ) (names : List NamedNode) → IsRising names → length (names_but id names) + cond (is_some (key_named names id)) 1 0 ≡ length names
length-but id [] rising = refl
length-but id (m ∷ ms) rising = by_test (m.id == id) refl (length-but id ms rising.1)
  where
    by_test : (c : Bool) → (m.id == id) ≡ c → length (names_but id ms) + cond (is_some (key_named ms id)) 1 0 ≡ length ms
        → length (cond (not c) (m ∷ names_but id ms) (names_but id ms)) + cond (is_some (cond c (Some m.key) (key_named ms id))) 1 0 ≡ length (m ∷ ms)
    by_test true e more =
        let same : m.id ≡ id = grind (arith, nat_tests) in
        rw (above-but m.id id ms (omega (arith, same)) rising.0) (omega arith)
    by_test false e more = omega (arith, more)

-- ---- places

pub named-place : (id : ℕ) (names : List NamedNode) (place : ℕ) → IsRising names → IsPlace id names place
    → key_named names id ≡ key_if id (slice_get names place)
named-place id [] place rising here = refl
named-place id (m ∷ ms) zero rising here = by_test (m.id == id) refl
  where
    by_test : (c : Bool) → (m.id == id) ≡ c → cond c (Some m.key) (key_named ms id) ≡ cond c (Some m.key) None
    by_test true e = refl
    by_test false e = above-none m.id id ms here rising.0
named-place id (m ∷ ms) (suc place) rising here = by_test (m.id == id) refl (named-place id ms place rising.1 here.1)
  where
    by_test : (c : Bool) → (m.id == id) ≡ c → key_named ms id ≡ key_if id (slice_get ms place)
        → cond c (Some m.key) (key_named ms id) ≡ key_if id (slice_get ms place)
    by_test true e more =
        let less : m.id < id = here.0 in
        let same : m.id ≡ id = grind (arith, nat_tests) in
        absurd (omega arith)
    by_test false e more = more

pub place-there : (id : ℕ) (names : List NamedNode) (place : ℕ) → IsRising names → IsPlace id names place → IsSome (key_named names id) → place < length names
place-there id [] place rising here some = absurd (cc)
place-there id (m ∷ ms) zero rising here some = omega arith
place-there id (m ∷ ms) (suc place) rising here some =
    let next : place < length ms = place-there id ms place rising.1 here.1 (by_test (m.id == id) refl some) in omega (arith, next)
  where
    by_test : (c : Bool) → (m.id == id) ≡ c → IsSome (cond c (Some m.key) (key_named ms id)) → IsSome (key_named ms id)
    by_test true e some' =
        let less : m.id < id = here.0 in
        let same : m.id ≡ id = grind (arith, nat_tests) in
        absurd (omega arith)
    by_test false e some' = some'

pub place-within : (id : ℕ) (names : List NamedNode) (place : ℕ) → IsPlace id names place → place ≤ length names
place-within id [] place here = omega (arith, here)
place-within id (m ∷ ms) zero here = omega arith
place-within id (m ∷ ms) (suc place) here = let next : place ≤ length ms = place-within id ms place here.1 in omega (arith, next)

pub insert-with : (n : NamedNode) (names : List NamedNode) (place : ℕ) → IsPlace n.id names place → key_named names n.id ≡ None
    → insert names place n ≡ names_with n names
insert-with n [] zero here none = refl
insert-with n [] (suc place) here none = absurd (omega (arith, here))
insert-with n (m ∷ ms) zero here none = by_order (nat_lt n.id m.id) refl (not-first n.id m ms none)
  where
    by_order : (b : Bool) → nat_lt n.id m.id ≡ b → (m.id ≢ n.id) × (key_named ms n.id ≡ None) → n ∷ m ∷ ms ≡ cond b (n ∷ m ∷ ms) (m ∷ names_with n ms)
    by_order true e apart = refl
    by_order false e apart =
        let other : m.id ≢ n.id = apart.0 in
        let low : n.id ≤ m.id = here in
        let high : m.id ≤ n.id = grind (arith, nat_tests) in
        absurd (other (omega arith))
insert-with n (m ∷ ms) (suc place) here none = by_order (nat_lt n.id m.id) refl (insert-with n ms place here.1 (not-first n.id m ms none).1)
  where
    by_order : (b : Bool) → nat_lt n.id m.id ≡ b → insert ms place n ≡ names_with n ms → m ∷ insert ms place n ≡ cond b (n ∷ m ∷ ms) (m ∷ names_with n ms)
    by_order true e more =
        let less : m.id < n.id = here.0 in
        let high : n.id < m.id = grind (arith, nat_tests) in
        absurd (omega arith)
    by_order false e more = ap (λ (rest : List NamedNode). m ∷ rest) more

pub remove-but : (id : ℕ) (names : List NamedNode) (place : ℕ) → IsRising names → IsPlace id names place → IsSome (key_named names id)
    → remove names place ≡ names_but id names
remove-but id [] place rising here some = absurd (cc)
remove-but id (m ∷ ms) zero rising here some = by_test (m.id == id) refl some
  where
    by_test : (c : Bool) → (m.id == id) ≡ c → IsSome (cond c (Some m.key) (key_named ms id)) → ms ≡ cond (not c) (m ∷ names_but id ms) (names_but id ms)
    by_test true e some' =
        let same : m.id ≡ id = grind (arith, nat_tests) in
        sym (above-but m.id id ms (omega (arith, same)) rising.0)
    by_test false e some' =
        let none : key_named ms id ≡ None = above-none m.id id ms here rising.0 in
        let no : ◌≡◌ {A = Bool} false true = rw none at some' in
        absurd (cc)
remove-but id (m ∷ ms) (suc place) rising here some = by_test (m.id == id) refl some (remove-but id ms place rising.1 here.1)
  where
    by_test : (c : Bool) → (m.id == id) ≡ c → IsSome (cond c (Some m.key) (key_named ms id)) → (IsSome (key_named ms id) → remove ms place ≡ names_but id ms)
        → m ∷ remove ms place ≡ cond (not c) (m ∷ names_but id ms) (names_but id ms)
    by_test true e some' more =
        let less : m.id < id = here.0 in
        let same : m.id ≡ id = grind (arith, nat_tests) in
        absurd (omega arith)
    by_test false e some' more = ap (λ (rest : List NamedNode). m ∷ rest) (more some')

-- ---- the search for a place

below-at : (b : ℕ) (names : List NamedNode) (k : ℕ) (d : NamedNode) → IsBelowAll b names → k < length names → b < (slice_index_or names k d).id
below-at b [] k d below within = absurd (omega arith)
below-at b (m ∷ ms) zero d below within = below.0
below-at b (m ∷ ms) (suc k) d below within = below-at b ms k d below.1 (omega arith)

pub rising-parts : (id : ℕ) (names : List NamedNode) → IsRising names → IsPartitionedBy (λ name. nat_lt name.id id) names
rising-parts id [] rising = λ i j d less within low. absurd (omega arith)
rising-parts id (m ∷ ms) rising = by_places (rising-parts id ms rising.1)
  where
    first : (k : ℕ) (d : NamedNode) → k < length ms → nat_lt (slice_index_or ms k d).id id ≡ true → nat_lt m.id id ≡ true
    first k d within low = let less : m.id < (slice_index_or ms k d).id = below-at m.id ms k d rising.0 within in grind (arith, nat_tests)

    by_places : IsPartitionedBy (λ (name : NamedNode). nat_lt name.id id) ms → (i j : ℕ) (d : NamedNode) → i ≤ j → j < length (m ∷ ms)
        → nat_lt (slice_index_or (m ∷ ms) j d).id id ≡ true → nat_lt (slice_index_or (m ∷ ms) i d).id id ≡ true
    by_places later zero zero d less within low = low
    by_places later zero (suc j) d less within low = first j d (omega arith) low
    by_places later (suc i) zero d less within low = absurd (omega arith)
    by_places later (suc i) (suc j) d less within low = later i j d (omega arith) (omega arith) low

pub place-from : (id : ℕ) (names : List NamedNode) (place : ℕ) → place ≤ length names
    → IsPartitionPoint (λ (name : NamedNode). nat_lt name.id id ≡ true) (λ name. nat_lt name.id id ≡ false) names place → IsPlace id names place
place-from id [] place within parts = omega arith
place-from id (m ∷ ms) zero within parts = let high : nat_lt m.id id ≡ false = parts.1 0 m (omega arith) (omega arith) in grind (arith, nat_tests)
place-from id (m ∷ ms) (suc place) within parts =
    let low : nat_lt m.id id ≡ true = parts.0 0 m (omega arith) (omega arith) in (
      grind (arith, nat_tests),
      place-from id ms place (omega arith)
          (λ k d a b. parts.0 (suc k) d (omega arith) (omega arith), λ k d a b. parts.1 (suc k) d (omega arith) (omega arith)),
    )
