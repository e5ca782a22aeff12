-- A text that is written piece by piece.
use Rattle.std.proofs.Common.{◌≡◌, ◌≤◌, ◌+◌, ℕ, zero, suc, Bool, true, false, ◌||◌, nat_lt, nat_le, List, [], ◌∷◌, ◌++◌, take, drop, length, get_or, Option}
use Rattle.std.proofs.Common.{Some, None, refl, sym, ap, ◌∙◌, subst, arith, append_assoc, append-nil}
use Rattle.std.specs.List.{concat}
use Rattle.std.proofs.Math.Seq.{drop-cons}
use Rattle.std.proofs.lemmas.Bool.Decides.{nat_tests}
use Rattle.std.proofs.lemmas.List.{take_more}
use Rattle.std.proofs.lemmas.List.Folds.{concat-append}
use Rattle.flat_io.specs.Counts.{count_end, has_risen}
use Rattle.flat_io.specs.Told.{Appends}
use Rattle.flat_io.specs.Whole.{AppendsPrefix}

pub appends-none : (held : Option (List ℕ)) → Appends [] held held
appends-none None = tt
appends-none (Some before) = sym (append-nil before)

pub appends-then : (xs ys : List ℕ) (a b c : Option (List ℕ)) → Appends xs a b → Appends ys b c → Appends (xs ++ ys) a c
appends-then xs ys a b None first then = tt
appends-then xs ys a None (Some z) first then = absurd then
appends-then xs ys None (Some y) (Some z) first then = absurd first
appends-then xs ys (Some x) (Some y) (Some z) first then = then ∙ ap (λ t. t ++ ys) first ∙ append_assoc x xs ys

-- the first bytes of a text are those of a longer one
first-bytes : (text rest : List ℕ) (count : ℕ) → (m : ℕ) × (take count text ≡ take m (text ++ rest))
first-bytes [] rest zero = (0, refl)
first-bytes [] rest (suc count) = (0, refl)
first-bytes (x ∷ text) rest zero = (0, refl)
first-bytes (x ∷ text) rest (suc count) = let later = first-bytes text rest count in (suc later.0, ap (λ t. x ∷ t) later.1)

behind : (xs ys : List ℕ) (count : ℕ) → (m : ℕ) × (xs ++ take count ys ≡ take m (xs ++ ys))
behind [] ys count = (count, refl)
behind (x ∷ xs) ys count = let later = behind xs ys count in (suc later.0, ap (λ t. x ∷ t) later.1)

pub prefix-then : (xs ys rest : List ℕ) (a b c : Option (List ℕ)) → Appends xs a b → AppendsPrefix ys b c → AppendsPrefix (xs ++ (ys ++ rest)) a c
prefix-then xs ys rest a b None first then = tt
prefix-then xs ys rest a None (Some z) first then = absurd then
prefix-then xs ys rest None (Some y) (Some z) first then = absurd first
prefix-then xs ys rest (Some x) (Some y) (Some z) first (count, is) =
    let one = first-bytes ys rest count in
    let two = behind xs (ys ++ rest) one.0 in
    (two.0, is ∙ ap (λ t. t ++ take count ys) first ∙ append_assoc x xs (take count ys) ∙ ap (λ t. x ++ (xs ++ t)) one.1 ∙ ap (λ t. x ++ t) two.1)

-- a count that rose from a later one rose
pub risen-on : (old mid new : ℕ) → old ≤ mid → has_risen mid new ≡ true → has_risen old new ≡ true
risen-on old mid new below risen = by_test (nat_lt mid new) refl risen
  where
    at_end : (b : Bool) → (b || true) ≡ true
    at_end true = refl
    at_end false = refl

    by_test : (b : Bool) → nat_lt mid new ≡ b → (b || nat_le count_end new) ≡ true → (nat_lt old new || nat_le count_end new) ≡ true
    by_test true is rose = let less : nat_lt old new ≡ true = grind (arith, nat_tests, is, below) in ap (λ b. b || nat_le count_end new) less
    by_test false is rose = ap (λ b. nat_lt old new || b) rose ∙ at_end (nat_lt old new)

pub either-on : (old mid new old' mid' new' : ℕ) → old ≤ mid → old' ≤ mid' → (has_risen mid new || has_risen mid' new') ≡ true
    → (has_risen old new || has_risen old' new') ≡ true
either-on old mid new old' mid' new' below below' risen = by_test (has_risen mid new) refl risen
  where
    at_end : (b : Bool) → (b || true) ≡ true
    at_end true = refl
    at_end false = refl

    by_test : (b : Bool) → has_risen mid new ≡ b → (b || has_risen mid' new') ≡ true → (has_risen old new || has_risen old' new') ≡ true
    by_test true is rose = ap (λ b. b || has_risen old' new') (risen-on old mid new below is)
    by_test false is rose = ap (λ b. has_risen old new || b) (risen-on old' mid' new' below' rose) ∙ at_end (has_risen old new)

-- the pieces before a place, the one at it, and those behind
pub split-at : (pieces : List (List ℕ)) (place : ℕ) (d : List ℕ) → suc place ≤ length pieces
    → concat pieces ≡ concat (take place pieces) ++ (get_or pieces place d ++ concat (drop (suc place) pieces))
split-at [] place d within = absurd (omega (arith, within))
split-at (p ∷ pieces) zero d within = refl
split-at (p ∷ pieces) (suc place) d within =
    ap (λ t. p ++ t) (split-at pieces place d (omega (arith, within)))
    ∙ sym (append_assoc p (concat (take place pieces)) (get_or pieces place d ++ concat (drop (suc place) pieces)))

pub one-piece-more : (pieces : List (List ℕ)) (place : ℕ) (d : List ℕ) → suc place ≤ length pieces
    → concat (take (place + 1) pieces) ≡ concat (take place pieces) ++ get_or pieces place d
one-piece-more pieces place d within =
    ap concat (take_more pieces place d (omega (arith, within))) ∙ concat-append (take place pieces) (get_or pieces place d ∷ [])
    ∙ ap (λ t. concat (take place pieces) ++ t) (append-nil (get_or pieces place d))
