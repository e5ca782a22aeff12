-- Lists of pairs by rising numbers.
use Rattle.std.proofs.Common.{◌≡◌, ◌≢◌, ◌∙◌, sym, subst, ℕ, zero, suc, ◌+◌, ◌-◌, ◌<◌, ◌≤◌, Bool, true, false, List, [], ◌∷◌, ◌++◌, length, filter, take, refl}
use Rattle.std.proofs.Common.{arith, ap, All, Some, None, slice_get, slice_index_or}
use Rattle.std.specs.Prelude.{cond, ◌&&◌, ◌||◌, ◌==◌, nat_le, nat_lt}
use Rattle.std.specs.List.{insert, list_all}
use Rattle.std.specs.List.Sorted.{IsPartitionedBy}
use Rattle.std.proofs.lemmas.Bool.Decides.{nat_tests}
use Rattle.std.proofs.lemmas.List.Elements.{All-head, All-tail}
use Rattle.flat_base.proofs.lemmas.Tests.{and-left, and-right}
use Rattle.flat_base.specs.declared.ids.PairNo.{PairNo}
use Rattle.flat_scene.specs.declared.setup.PairDecl.{PairDecl}
use Rattle.flat_rules.specs.Ends.{pairs_where}
use Rattle.flat_gets.specs.Listed.{is_listed, rises_from, with_pair}

-- ---- rising numbers

pub rises-earlier : (m n : ℕ) (xs : List PairNo) → n ≤ m → rises_from m xs ≡ true → rises_from n xs ≡ true
rises-earlier m n [] less rises = refl
rises-earlier m n (q ∷ xs) less rises =
    let first : nat_le m q.0 ≡ true = and-left (nat_le m q.0) _ rises in
    let now : nat_le n q.0 ≡ true = grind (arith, nat_tests) in
    rw (now, and-right (nat_le m q.0) _ rises) refl

pub rises-filter : (n : ℕ) (test : PairNo → Bool) (xs : List PairNo) → rises_from n xs ≡ true → rises_from n (filter test xs) ≡ true
rises-filter n test [] rises = refl
rises-filter n test (q ∷ xs) rises = by_test (test q) (rises-filter (q.0 + 1) test xs (and-right (nat_le n q.0) _ rises))
  where
    first : nat_le n q.0 ≡ true
    first = and-left (nat_le n q.0) _ rises

    by_test : (b : Bool) → rises_from (q.0 + 1) (filter test xs) ≡ true → rises_from n (cond b (q ∷ filter test xs) (filter test xs)) ≡ true
    by_test true rest = rw (first, rest) refl
    by_test false rest = rises-earlier (q.0 + 1) n (filter test xs) (grind (arith, nat_tests)) rest

pub rises-with : (n : ℕ) (p : PairNo) (xs : List PairNo) → n ≤ p.0 → rises_from n xs ≡ true → rises_from n (with_pair p xs) ≡ true
rises-with n p [] low rises = let first : nat_le n p.0 ≡ true = grind (arith, nat_tests) in rw first refl
rises-with n p (q ∷ xs) low rises = by_tests (nat_lt p.0 q.0) (p.0 == q.0) refl refl (λ more. rises-with (q.0 + 1) p xs more (and-right (nat_le n q.0) _ rises))
  where
    first : nat_le n q.0 ≡ true
    first = and-left (nat_le n q.0) _ rises

    rest : rises_from (q.0 + 1) xs ≡ true
    rest = and-right (nat_le n q.0) _ rises

    by_tests : (a b : Bool) → nat_lt p.0 q.0 ≡ a → (p.0 == q.0) ≡ b → (q.0 + 1 ≤ p.0 → rises_from (q.0 + 1) (with_pair p xs) ≡ true)
        → rises_from n (cond a (p ∷ q ∷ xs) (cond b (q ∷ xs) (q ∷ with_pair p xs))) ≡ true
    by_tests true b i j later =
        let at : nat_le n p.0 ≡ true = grind (arith, nat_tests) in
        let next : nat_le (p.0 + 1) q.0 ≡ true = grind (arith, nat_tests) in
        rw (at, next, rest) refl
    by_tests false true i j later = rises
    by_tests false false i j later = rw (first, later (grind (arith, nat_tests))) refl

-- no number of the list is below that
pub rises-at : (n : ℕ) (xs : List PairNo) → rises_from n xs ≡ true → (k : ℕ) (d : PairNo) → k < length xs → n ≤ (slice_index_or xs k d).0
rises-at n [] rises k d below = absurd (omega (arith, below))
rises-at n (q ∷ xs) rises zero d below = let first : nat_le n q.0 ≡ true = and-left (nat_le n q.0) _ rises in grind (arith, nat_tests)
rises-at n (q ∷ xs) rises (suc k) d below =
    let first : nat_le n q.0 ≡ true = and-left (nat_le n q.0) _ rises in
    let here : n ≤ q.0 = grind (arith, nat_tests) in
    omega (arith, here, rises-at (q.0 + 1) xs (and-right (nat_le n q.0) _ rises) k d (omega (arith, below)))

pub rises-le : (n : ℕ) (xs : List PairNo) → rises_from n xs ≡ true → (i j : ℕ) (d : PairNo) → i ≤ j → j < length xs
    → (slice_index_or xs i d).0 ≤ (slice_index_or xs j d).0
rises-le n [] rises i j d less below = absurd (omega (arith, below))
rises-le n (q ∷ xs) rises zero zero d less below = omega arith
rises-le n (q ∷ xs) rises zero (suc j) d less below = omega (arith, rises-at (q.0 + 1) xs (and-right (nat_le n q.0) _ rises) j d (omega (arith, below)))
rises-le n (q ∷ xs) rises (suc i) zero d less below = absurd (omega (arith, less))
rises-le n (q ∷ xs) rises (suc i) (suc j) d less below =
    rises-le (q.0 + 1) xs (and-right (nat_le n q.0) _ rises) i j d (omega (arith, less)) (omega (arith, below))

pub parted : (p : ℕ) (xs : List PairNo) → rises_from 0 xs ≡ true → IsPartitionedBy (λ (q : PairNo). nat_lt q.0 p) xs
parted p xs rises i j d less below is =
    let step : (slice_index_or xs i d).0 ≤ (slice_index_or xs j d).0 = rises-le 0 xs rises i j d less below in
    grind (arith, nat_tests)

-- ---- a pair in its place

pub put-pair : (p : PairNo) (xs : List PairNo) (i : ℕ) → i ≤ length xs
    → ((k : ℕ) (d : PairNo) → k < i → k < length xs → nat_lt (slice_index_or xs k d).0 p.0 ≡ true)
    → ((k : ℕ) (d : PairNo) → i ≤ k → k < length xs → nat_lt (slice_index_or xs k d).0 p.0 ≡ false)
    → ((d : PairNo) → i < length xs → (slice_index_or xs i d).0 ≢ p.0) → insert xs i p ≡ with_pair p xs
put-pair p [] zero fits before after other = refl
put-pair p [] (suc i) fits before after other = absurd (omega (arith, fits))
put-pair p (q ∷ xs) zero fits before after other =
    let not_less : nat_lt q.0 p.0 ≡ false = after 0 q (omega arith) (omega arith) in
    let differ : q.0 ≢ p.0 = other q (omega arith) in
    let less : nat_lt p.0 q.0 ≡ true = grind (arith, nat_tests) in
    rw less refl
put-pair p (q ∷ xs) (suc i) fits before after other =
    let less : nat_lt q.0 p.0 ≡ true = before 0 q (omega arith) (omega arith) in
    let not_less : nat_lt p.0 q.0 ≡ false = grind (arith, nat_tests) in
    let differ : (p.0 == q.0) ≡ false = grind (arith, nat_tests) in
    let rest : insert xs i p ≡ with_pair p xs =
    put-pair p xs i (omega (arith, fits)) (λ k d b w. before (suc k) d (omega (arith, b)) (omega (arith, w)))
    (λ k d b w. after (suc k) d (omega (arith, b)) (omega (arith, w))) (λ d w. other d (omega (arith, w))) in
    rw (not_less, differ) (ap (λ (l : List PairNo). q ∷ l) rest)

pub found-pair : (p : PairNo) (xs : List PairNo) (i : ℕ) (d : PairNo) → i < length xs
    → ((k : ℕ) (d : PairNo) → k < i → k < length xs → nat_lt (slice_index_or xs k d).0 p.0 ≡ true) → (slice_index_or xs i d).0 ≡ p.0 → with_pair p xs ≡ xs
found-pair p [] i d fits before same = absurd (omega (arith, fits))
found-pair p (q ∷ xs) zero d fits before same =
    let not_less : nat_lt p.0 q.0 ≡ false = grind (arith, nat_tests) in
    let here : (p.0 == q.0) ≡ true = grind (arith, nat_tests) in
    rw (not_less, here) refl
found-pair p (q ∷ xs) (suc i) d fits before same =
    let less : nat_lt q.0 p.0 ≡ true = before 0 q (omega arith) (omega arith) in
    let not_less : nat_lt p.0 q.0 ≡ false = grind (arith, nat_tests) in
    let differ : (p.0 == q.0) ≡ false = grind (arith, nat_tests) in
    let rest : with_pair p xs ≡ xs = found-pair p xs i d (omega (arith, fits)) (λ k e b w. before (suc k) e (omega (arith, b)) (omega (arith, w))) same in
    rw (not_less, differ) (ap (λ (l : List PairNo). q ∷ l) rest)

-- ---- tests

-- a test that each number passes can be left out
pub filter-known : (n : ℕ) (test : PairNo → Bool) (xs : List PairNo) → All (λ q. q.0 < n) xs → filter (λ q. nat_lt q.0 n && test q) xs ≡ filter test xs
filter-known n test [] all = refl
filter-known n test (q ∷ xs) all =
    let here : q.0 < n = All-head (λ (r : PairNo). r.0 < n) q xs all in
    let passes : nat_lt q.0 n ≡ true = grind (arith, nat_tests) in
    let rest : filter (λ r. nat_lt r.0 n && test r) xs ≡ filter test xs = filter-known n test xs (All-tail (λ (r : PairNo). r.0 < n) q xs all) in
    rw passes (ap (λ (l : List PairNo). cond (test q) (q ∷ l) l) rest)

pub filter-twice : (a b : PairNo → Bool) (xs : List PairNo) → filter b (filter a xs) ≡ filter (λ q. a q && b q) xs
filter-twice a b [] = refl
filter-twice a b (q ∷ xs) = by_test (a q) (filter-twice a b xs)
  where
    by_test : (c : Bool) → filter b (filter a xs) ≡ filter (λ r. a r && b r) xs
        → filter b (cond c (q ∷ filter a xs) (filter a xs)) ≡ cond (c && b q) (q ∷ filter (λ r. a r && b r) xs) (filter (λ r. a r && b r) xs)
    by_test true rest = ap (λ (l : List PairNo). cond (b q) (q ∷ l) l) rest
    by_test false rest = rest

-- ---- the pairs of one owner

pub where-rises : (test : PairDecl → Bool) (n : ℕ) (pairs : List PairDecl) → rises_from n (pairs_where test n pairs) ≡ true
where-rises test n [] = refl
where-rises test n (decl ∷ pairs) = by_test (test decl) (where-rises test (n + 1) pairs)
  where
    by_test : (b : Bool) → rises_from (n + 1) (pairs_where test (n + 1) pairs) ≡ true
        → rises_from n (cond b ((record { 0 = n }) ∷ pairs_where test (n + 1) pairs) (pairs_where test (n + 1) pairs)) ≡ true
    by_test true rest = let first : nat_le n n ≡ true = grind (arith, nat_tests) in rw (first, rest) refl
    by_test false rest = rises-earlier (n + 1) n (pairs_where test (n + 1) pairs) (omega arith) rest

pub where-known : (test : PairDecl → Bool) (n : ℕ) (pairs : List PairDecl) → list_all (λ q. nat_lt q.0 (n + length pairs)) (pairs_where test n pairs) ≡ true
where-known test n [] = refl
where-known test n (decl ∷ pairs) = by_test (test decl) (n + length (decl ∷ pairs)) (omega arith) (known-at (omega arith) (where-known test (n + 1) pairs))
  where
    known-at : n + 1 + length pairs ≡ n + length (decl ∷ pairs) → list_all (λ q. nat_lt q.0 (n + 1 + length pairs)) (pairs_where test (n + 1) pairs) ≡ true
        → list_all (λ q. nat_lt q.0 (n + length (decl ∷ pairs))) (pairs_where test (n + 1) pairs) ≡ true
    known-at is = subst (λ (m : ℕ). list_all (λ (q : PairNo). nat_lt q.0 m) (pairs_where test (n + 1) pairs) ≡ true) is

    by_test : (b : Bool) (m : ℕ) → n < m → list_all (λ q. nat_lt q.0 m) (pairs_where test (n + 1) pairs) ≡ true
        → list_all (λ q. nat_lt q.0 m) (cond b ((record { 0 = n }) ∷ pairs_where test (n + 1) pairs) (pairs_where test (n + 1) pairs)) ≡ true
    by_test true m less rest = let first : nat_lt n m ≡ true = grind (arith, nat_tests) in rw (first, rest) refl
    by_test false m less rest = rest

-- none of a list that begins later is a lower one
listed-past : (m n : ℕ) (xs : List PairNo) → m < n → rises_from n xs ≡ true → is_listed m xs ≡ false
listed-past m n [] less rises = refl
listed-past m n (q ∷ xs) less rises =
    let first : nat_le n q.0 ≡ true = and-left (nat_le n q.0) _ rises in
    let differ : (q.0 == m) ≡ false = grind (arith, nat_tests) in
    let later : m < q.0 + 1 = grind (arith, nat_tests) in
    rw differ (listed-past m (q.0 + 1) xs later (and-right (nat_le n q.0) _ rises))

with-front : (p : PairNo) (xs : List PairNo) → rises_from (p.0 + 1) xs ≡ true → with_pair p xs ≡ p ∷ xs
with-front p [] rises = refl
with-front p (q ∷ xs) rises =
    let first : nat_le (p.0 + 1) q.0 ≡ true = and-left (nat_le (p.0 + 1) q.0) _ rises in
    let less : nat_lt p.0 q.0 ≡ true = grind (arith, nat_tests) in
    rw less refl

-- a test that changes at a lower number alone passes the same
filter-past : (p : ℕ) (n : ℕ) (some : PairNo → Bool) (xs : List PairNo) → p < n → rises_from n xs ≡ true → filter (λ q. some q || q.0 == p) xs ≡ filter some xs
filter-past p n some [] less rises = refl
filter-past p n some (q ∷ xs) less rises =
    let first : nat_le n q.0 ≡ true = and-left (nat_le n q.0) _ rises in
    let differ : (q.0 == p) ≡ false = grind (arith, nat_tests) in
    let later : p < q.0 + 1 = grind (arith, nat_tests) in
    rw differ (by_test (some q) (filter-past p (q.0 + 1) some xs later (and-right (nat_le n q.0) _ rises)))
  where
    by_test : (b : Bool) → filter (λ r. some r || r.0 == p) xs ≡ filter some xs
        → cond (b || false) (q ∷ filter (λ r. some r || r.0 == p) xs) (filter (λ r. some r || r.0 == p) xs) ≡ cond b (q ∷ filter some xs) (filter some xs)
    by_test true rest = ap (λ (l : List PairNo). q ∷ l) rest
    by_test false rest = rest

-- a pair among those of an owner is listed by one more passing the test
pub with-owned : (test : PairDecl → Bool) (p : PairNo) (some : PairNo → Bool) (n : ℕ) (pairs : List PairDecl) (decl : PairDecl) → n ≤ p.0
    → slice_get pairs (p.0 - n) ≡ Some decl → test decl ≡ true
    → with_pair p (filter some (pairs_where test n pairs)) ≡ filter (λ q. some q || q.0 == p.0) (pairs_where test n pairs)
with-owned test p some n [] decl low at is = let gone : None ≡ Some decl = at in cc
with-owned test p some n (one ∷ pairs) decl low at is = by_place (p.0 == n) refl (λ past. with-owned test p some (n + 1) pairs decl past)
  where
    xs : List PairNo
    xs = pairs_where test (n + 1) pairs

    rises : rises_from (n + 1) xs ≡ true
    rises = where-rises test (n + 1) pairs

    by_place : (b : Bool) → (p.0 == n) ≡ b → (n + 1 ≤ p.0 → slice_get pairs (p.0 - (n + 1)) ≡ Some decl → test decl ≡ true
        → with_pair p (filter some xs) ≡ filter (λ q. some q || q.0 == p.0) xs)
        → with_pair p (filter some (cond (test one) ((record { 0 = n }) ∷ xs) xs))
        ≡ filter (λ q. some q || q.0 == p.0) (cond (test one) ((record { 0 = n }) ∷ xs) xs)
    by_place true here later =
        let number : n ≡ p.0 = grind (arith, nat_tests) in
        let first : one ≡ decl = let zero_is : p.0 - n ≡ 0 = omega (arith, number) in let got : slice_get (one ∷ pairs) 0 ≡ Some decl =
        ap (slice_get (one ∷ pairs)) (sym zero_is) ∙ at in cc in
        let tested : test one ≡ true = ap test first ∙ is in
        let itself : (n == p.0) ≡ true = grind (arith, nat_tests) in
        let same_rest : filter (λ q. some q || q.0 == p.0) xs ≡ filter some xs = filter-past p.0 (n + 1) some xs (omega (arith, number)) rises in
        rw tested (by_some (some (record { 0 = n })) number itself same_rest)
      where
        by_some : (c : Bool) → n ≡ p.0 → (n == p.0) ≡ true → filter (λ q. some q || q.0 == p.0) xs ≡ filter some xs
            → with_pair p (cond c ((record { 0 = n }) ∷ filter some xs) (filter some xs))
            ≡ cond (c || n == p.0) ((record { 0 = n }) ∷ filter (λ q. some q || q.0 == p.0) xs) (filter (λ q. some q || q.0 == p.0) xs)
        by_some true number itself same =
            let not_less : nat_lt p.0 n ≡ false = grind (arith, nat_tests) in
            rw (not_less, here, same) refl
        by_some false number itself same =
            let front : rises_from (p.0 + 1) (filter some xs) ≡ true =
            rises-earlier (n + 1) (p.0 + 1) (filter some xs) (omega (arith, number)) (rises-filter (n + 1) some xs rises) in
            with-front p (filter some xs) front ∙ rw (itself, same) (ap (λ (m : ℕ). let q : PairNo = record { 0 = m } in q ∷ filter some xs) (sym number))
    by_place false other later =
        let past : n + 1 ≤ p.0 = grind (arith, nat_tests) in
        let step : p.0 - n ≡ suc (p.0 - (n + 1)) = omega (arith, past) in
        let next : slice_get pairs (p.0 - (n + 1)) ≡ Some decl = ap (slice_get (one ∷ pairs)) (sym step) ∙ at in
        let differ : (n == p.0) ≡ false = grind (arith, nat_tests) in
        by_test (test one) differ (later past next is)
      where
        by_test : (c : Bool) → (n == p.0) ≡ false → with_pair p (filter some xs) ≡ filter (λ q. some q || q.0 == p.0) xs
            → with_pair p (filter some (cond c ((record { 0 = n }) ∷ xs) xs)) ≡ filter (λ q. some q || q.0 == p.0) (cond c ((record { 0 = n }) ∷ xs) xs)
        by_test false differ rest = rest
        by_test true differ rest = rw differ (by_some (some (record { 0 = n })))
          where
            not_less : nat_lt p.0 n ≡ false
            not_less = grind (arith, nat_tests)

            by_some : (d : Bool) → with_pair p (cond d ((record { 0 = n }) ∷ filter some xs) (filter some xs))
                ≡ cond (d || false) ((record { 0 = n }) ∷ filter (λ q. some q || q.0 == p.0) xs) (filter (λ q. some q || q.0 == p.0) xs)
            by_some true = rw (not_less, other) (ap (λ (l : List PairNo). let q : PairNo = record { 0 = n } in q ∷ l) rest)
            by_some false = rest

-- of a pair among those of an owner, the test tells whether it is listed
pub listed-owned : (test : PairDecl → Bool) (p : PairNo) (some : PairNo → Bool) (n : ℕ) (pairs : List PairDecl) (decl : PairDecl) → n ≤ p.0
    → slice_get pairs (p.0 - n) ≡ Some decl → test decl ≡ true
    → is_listed p.0 (filter some (pairs_where test n pairs)) ≡ some p
listed-owned test p some n [] decl low at is = let gone : None ≡ Some decl = at in cc
listed-owned test p some n (one ∷ pairs) decl low at is = by_place (p.0 == n) refl (λ past. listed-owned test p some (n + 1) pairs decl past)
  where
    xs : List PairNo
    xs = pairs_where test (n + 1) pairs

    rises : rises_from (n + 1) xs ≡ true
    rises = where-rises test (n + 1) pairs

    by_place : (b : Bool) → (p.0 == n) ≡ b → (n + 1 ≤ p.0 → slice_get pairs (p.0 - (n + 1)) ≡ Some decl → test decl ≡ true
        → is_listed p.0 (filter some xs) ≡ some p)
        → is_listed p.0 (filter some (cond (test one) ((record { 0 = n }) ∷ xs) xs)) ≡ some p
    by_place true here later =
        let number : n ≡ p.0 = grind (arith, nat_tests) in
        let first : one ≡ decl = let zero_is : p.0 - n ≡ 0 = omega (arith, number) in let got : slice_get (one ∷ pairs) 0 ≡ Some decl =
        ap (slice_get (one ∷ pairs)) (sym zero_is) ∙ at in cc in
        let tested : test one ≡ true = ap test first ∙ is in
        let itself : (n == p.0) ≡ true = grind (arith, nat_tests) in
        let none : is_listed p.0 (filter some xs) ≡ false =
        listed-past p.0 (n + 1) (filter some xs) (omega (arith, number)) (rises-filter (n + 1) some xs rises) in
        let whole : some (record { 0 = n }) ≡ some p = ap (λ (m : ℕ). some (record { 0 = m })) number in
        rw tested (by_some (some (record { 0 = n })) itself none ∙ whole)
      where
        by_some : (c : Bool) → (n == p.0) ≡ true → is_listed p.0 (filter some xs) ≡ false
            → is_listed p.0 (cond c ((record { 0 = n }) ∷ filter some xs) (filter some xs)) ≡ c
        by_some true itself none = rw itself refl
        by_some false itself none = none
    by_place false other later =
        let past : n + 1 ≤ p.0 = grind (arith, nat_tests) in
        let step : p.0 - n ≡ suc (p.0 - (n + 1)) = omega (arith, past) in
        let next : slice_get pairs (p.0 - (n + 1)) ≡ Some decl = ap (slice_get (one ∷ pairs)) (sym step) ∙ at in
        let differ : (n == p.0) ≡ false = grind (arith, nat_tests) in
        by_test (test one) (some (record { 0 = n })) differ (later past next is)
      where
        by_test : (c d : Bool) → (n == p.0) ≡ false → is_listed p.0 (filter some xs) ≡ some p
            → is_listed p.0 (filter some (cond c ((record { 0 = n }) ∷ xs) xs)) ≡ some p
        by_test false d differ rest = rest
        by_test true d differ rest = by_some (some (record { 0 = n }))
          where
            by_some : (f : Bool) → is_listed p.0 (cond f ((record { 0 = n }) ∷ filter some xs) (filter some xs)) ≡ some p
            by_some true = rw differ rest
            by_some false = rest

-- a pair that isn't among those of an owner isn't listed
pub listed-other : (owns : PairNo → Bool) (some : PairNo → Bool) (i : ℕ) (xs : List PairNo) → list_all owns xs ≡ true
    → (let p : PairNo = record { 0 = i } in owns p ≡ false) → is_listed i (filter some xs) ≡ false
listed-other owns some i [] all other = refl
listed-other owns some i (q ∷ xs) all other = by_some (some q) (listed-other owns some i xs (and-right (owns q) _ all) other)
  where
    differ : (q.0 == i) ≡ false
    differ = by_same (q.0 == i) refl
      where
        by_same : (b : Bool) → (q.0 == i) ≡ b → b ≡ false
        by_same false apart = refl
        by_same true same =
            let number : q.0 ≡ i = grind (arith, nat_tests) in
            let mine : owns (record { 0 = i }) ≡ true = ap (λ (m : ℕ). owns (record { 0 = m })) (sym number) ∙ and-left (owns q) _ all in
            sym mine ∙ other

    by_some : (b : Bool) → is_listed i (filter some xs) ≡ false → is_listed i (cond b (q ∷ filter some xs) (filter some xs)) ≡ false
    by_some true rest = rw differ rest
    by_some false rest = rest

-- all that pass pass what holds of all
pub filter-all : (owns some : PairNo → Bool) (xs : List PairNo) → list_all owns xs ≡ true → list_all owns (filter some xs) ≡ true
filter-all owns some [] all = refl
filter-all owns some (q ∷ xs) all = by_some (some q) (filter-all owns some xs (and-right (owns q) _ all))
  where
    by_some : (b : Bool) → list_all owns (filter some xs) ≡ true → list_all owns (cond b (q ∷ filter some xs) (filter some xs)) ≡ true
    by_some true rest = rw (and-left (owns q) _ all, rest) refl
    by_some false rest = rest

pub filter-none : (xs : List PairNo) → filter (λ q. false) xs ≡ []
filter-none [] = refl
filter-none (q ∷ xs) = filter-none xs

-- where a list ends, and its next one
pub listed-append : (i : ℕ) (xs ys : List PairNo) → is_listed i (xs ++ ys) ≡ (is_listed i xs || is_listed i ys)
listed-append i [] ys = refl
listed-append i (q ∷ xs) ys = by_same (q.0 == i) (listed-append i xs ys)
  where
    by_same : (b : Bool) → is_listed i (xs ++ ys) ≡ (is_listed i xs || is_listed i ys)
        → (b || is_listed i (xs ++ ys)) ≡ ((b || is_listed i xs) || is_listed i ys)
    by_same true rest = refl
    by_same false rest = rest

-- of a rising list the one at a place isn't among those before it
pub listed-before : (n : ℕ) (xs : List PairNo) → rises_from n xs ≡ true → (k : ℕ) (d : PairNo) → k < length xs
    → is_listed (slice_index_or xs k d).0 (take k xs) ≡ false
listed-before n [] rises k d below = absurd (omega (arith, below))
listed-before n (q ∷ xs) rises zero d below = refl
listed-before n (q ∷ xs) rises (suc k) d below =
    let at : q.0 + 1 ≤ (slice_index_or xs k d).0 = rises-at (q.0 + 1) xs (and-right (nat_le n q.0) _ rises) k d (omega (arith, below)) in
    let differ : (q.0 == (slice_index_or xs k d).0) ≡ false = grind (arith, nat_tests) in
    rw differ (listed-before (q.0 + 1) xs (and-right (nat_le n q.0) _ rises) k d (omega (arith, below)))

pub apart-at : (xs : List PairNo) (p : PairNo) (i : ℕ) (d : PairNo) → i < length xs → (nat_lt i (length xs) && (slice_index_or xs i d).0 == p.0) ≡ false
    → (slice_index_or xs i d).0 ≢ p.0
apart-at xs p i d below other same =
    let first : nat_lt i (length xs) ≡ true = grind (arith, nat_tests) in
    let second : ((slice_index_or xs i d).0 == p.0) ≡ true = grind (arith, nat_tests) in
    let both : (nat_lt i (length xs) && (slice_index_or xs i d).0 == p.0) ≡ true = rw (first, second) refl in
    let wrong : true ≡ false = sym both ∙ other in cc

pub take-all : {A : Type 0} (xs : List A) (i : ℕ) → length xs ≤ i → take i xs ≡ xs
take-all [] zero past = refl
take-all [] (suc i) past = refl
take-all (x ∷ xs) zero past = absurd (omega (arith, past))
take-all {A = A} (x ∷ xs) (suc i) past = ap (λ (l : List A). x ∷ l) (take-all xs i (omega (arith, past)))
