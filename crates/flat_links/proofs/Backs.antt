-- Tokens that come back, and places of tokens.
use Rattle.std.proofs.Common.{◌≡◌, ◌∙◌, ℕ, zero, suc, ◌+◌, ◌≤◌, Bool, true, false, List, [], ◌∷◌, filter, take, length, refl, arith, ap, add-one}
use Rattle.std.specs.Prelude.{cond, not, nat_lt, if◌then◌else◌}
use Rattle.std.specs.List.{insert}
use Rattle.flat_links.specs.declared.tokens.OutToken.{OutToken}
use Rattle.flat_links.specs.Viewports.{with_out, place_of, is_back, back_events, still_out}
use Rattle.std.proofs.lemmas.List.{length-map}

-- those that pass a test, and the others, are all
parted : {A : Type 0} (q : A → Bool) (xs : List A) → length (filter (λ x. not (q x)) xs) + length (filter q xs) ≡ length xs
parted q [] = omega arith
parted q (x ∷ xs) = by_test (parted q xs) (q x)
  where
    by_test : length (filter (λ y. not (q y)) xs) + length (filter q xs) ≡ length xs → (b : Bool)
        → length (cond (not b) (x ∷ filter (λ y. not (q y)) xs) (filter (λ y. not (q y)) xs)) + length (cond b (x ∷ filter q xs) (filter q xs))
        ≡ length (x ∷ xs)
    by_test rest true = omega (arith, rest)
    by_test rest false = omega (arith, rest)

pub back-or-out : (t : ℕ) (outs : List OutToken) → length (still_out t outs) + length (back_events t outs) ≡ length outs
back-or-out t outs = ap (λ (n : ℕ). length (still_out t outs) + n) (length-map (filter (is_back t) outs) _) ∙ parted (is_back t) outs

take-few : {A : Type 0} (i : ℕ) (xs : List A) → length (take i xs) ≤ i
take-few zero xs = omega arith
take-few (suc i) [] = omega arith
take-few (suc i) (x ∷ xs) = omega (arith, take-few i xs)

pub back-few : (t i : ℕ) (outs : List OutToken) → length (back_events t (take i outs)) ≤ i
back-few t i outs = omega (arith, back-or-out t (take i outs), take-few i outs)

-- a token is put in its place
pub put-in-place : (one : OutToken) (outs : List OutToken) → insert outs (place_of one.pair.0 outs) one ≡ with_out one outs
put-in-place one [] = refl
put-in-place one (out ∷ outs) = by_test (put-in-place one outs) (nat_lt one.pair.0 out.pair.0)
  where
    by_test : insert outs (place_of one.pair.0 outs) one ≡ with_out one outs → (b : Bool)
        → insert (out ∷ outs) (cond b 0 (place_of one.pair.0 outs + 1)) one ≡ cond b (one ∷ out ∷ outs) (out ∷ with_out one outs)
    by_test rest true = refl
    by_test rest false = rw add-one (ap (λ (l : List OutToken). out ∷ l) rest)

pub if-so : {A : Type 0} (b : Bool) (x y z : A) → b ≡ true → x ≡ (if b then y else z) → x ≡ y
if-so true x y z is e = e
if-so false x y z is e = cc
