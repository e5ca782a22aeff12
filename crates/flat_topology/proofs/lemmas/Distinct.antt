-- Lists of numbers that all differ.
use Rattle.std.proofs.Common.{ℕ, zero, suc, ◌+◌, ◌<◌, ◌≡◌, ◌≢◌, ◌⊎◌, inl, inr, refl, sym, List, [], ◌∷◌, ◌++◌, length, slice_index_or, arith, add-one}
use Rattle.std.specs.List.{Contains, AllPairs}
use Rattle.std.proofs.lemmas.List.Kept.{AllPairs-cons}

-- a number stands in a list
abbrev pub In : ℕ → List ℕ → Type 0
In x [] = ⊥
In x (y ∷ ys) = (x ≡ y) ⊎ In x ys

-- no number stands in a list twice
abbrev pub Distinct : List ℕ → Type 0
Distinct [] = Unit {0}
Distinct (x ∷ xs) = (¬ In x xs) × Distinct xs

pub in-left : (x : ℕ) (xs ys : List ℕ) → In x xs → In x (xs ++ ys)
in-left x [] ys on = absurd on
in-left x (z ∷ xs) ys (inl same) = inl same
in-left x (z ∷ xs) ys (inr on) = inr (in-left x xs ys on)

pub in-right : (x : ℕ) (xs ys : List ℕ) → In x ys → In x (xs ++ ys)
in-right x [] ys on = on
in-right x (z ∷ xs) ys on = inr (in-right x xs ys on)

-- the places of three lists, one after another
pub in-first : (x : ℕ) (xs ys zs : List ℕ) → In x xs → In x ((xs ++ ys) ++ zs)
in-first x xs ys zs on = in-left x (xs ++ ys) zs (in-left x xs ys on)

pub in-second : (x : ℕ) (xs ys zs : List ℕ) → In x ys → In x ((xs ++ ys) ++ zs)
in-second x xs ys zs on = in-left x (xs ++ ys) zs (in-right x xs ys on)

pub in-third : (x : ℕ) (xs ys zs : List ℕ) → In x zs → In x ((xs ++ ys) ++ zs)
in-third x xs ys zs on = in-right x (xs ++ ys) zs on

pub in-append : (x : ℕ) (xs ys : List ℕ) → In x (xs ++ ys) → In x xs ⊎ In x ys
in-append x [] ys on = inr on
in-append x (z ∷ xs) ys (inl same) = inl (inl same)
in-append x (z ∷ xs) ys (inr on) = one_more (in-append x xs ys on)
  where
    one_more : In x xs ⊎ In x ys → In x (z ∷ xs) ⊎ In x ys
    one_more (inl left) = inl (inr left)
    one_more (inr right) = inr right

pub distinct-append : (xs ys : List ℕ) → Distinct xs → Distinct ys → ((x : ℕ) → In x xs → In x ys → ⊥) → Distinct (xs ++ ys)
distinct-append [] ys left right apart = right
distinct-append (z ∷ xs) ys left right apart = (λ on. not (in-append z xs ys on), distinct-append xs ys left.1 right (λ x l r. apart x (inr l) r))
  where
    not : In z xs ⊎ In z ys → ⊥
    not (inl l) = left.0 l
    not (inr r) = apart z (inl refl) r

pub distinct-left : (xs ys : List ℕ) → Distinct (xs ++ ys) → Distinct xs
distinct-left [] ys d = tt
distinct-left (z ∷ xs) ys d = (λ on. d.0 (in-left z xs ys on), distinct-left xs ys d.1)

pub distinct-right : (xs ys : List ℕ) → Distinct (xs ++ ys) → Distinct ys
distinct-right [] ys d = d
distinct-right (z ∷ xs) ys d = distinct-right xs ys d.1

pub distinct-apart : (xs ys : List ℕ) → Distinct (xs ++ ys) → (x : ℕ) → In x xs → In x ys → ⊥
distinct-apart [] ys d x left right = left
distinct-apart (z ∷ xs) ys d x (inl same) right = d.0 (in-right z xs ys (rw (← same) right))
distinct-apart (z ∷ xs) ys d x (inr left) right = distinct-apart xs ys d.1 x left right

-- ---- the words of contracts, which go by index

pub contains-in : (x : ℕ) (xs : List ℕ) → In x xs → Contains xs x
contains-in x [] on = absurd on
contains-in x (y ∷ ys) (inl same) = (0, omega arith, sym same)
contains-in x (y ∷ ys) (inr on) = let later : Contains ys x = contains-in x ys on in (later.0 + 1, omega (arith, later.1), rw add-one later.2)

in-at : (x : ℕ) (xs : List ℕ) (k d : ℕ) → k < length xs → slice_index_or xs k d ≡ x → In x xs
in-at x [] k d low is = absurd (omega arith)
in-at x (y ∷ ys) zero d low is = inl (sym is)
in-at x (y ∷ ys) (suc k) d low is = inr (in-at x ys k d (omega arith) is)

pub in-contains : (x : ℕ) (xs : List ℕ) → Contains xs x → In x xs
in-contains x xs has = in-at x xs has.0 x has.1 has.2

pub pairs-distinct : (xs : List ℕ) → Distinct xs → AllPairs (λ x y. x ≢ y) xs
pairs-distinct [] d = λ i j e before low. absurd (omega arith)
pairs-distinct (x ∷ xs) d = AllPairs-cons (λ y z. y ≢ z) x xs (λ k e low same. d.0 (in-at x xs k e low (sym same))) (pairs-distinct xs d.1)

pub distinct-pairs : (xs : List ℕ) → AllPairs (λ x y. x ≢ y) xs → Distinct xs
distinct-pairs [] pairs = tt
distinct-pairs (x ∷ xs) pairs = (
  λ on. first_differs (contains-in x xs on),
  distinct-pairs xs (λ i j d before low. pairs (suc i) (suc j) d (omega arith) (omega arith)),
)
  where
    first_differs : Contains xs x → ⊥
    first_differs has = pairs 0 (suc has.0) x (omega arith) (omega (arith, has.1)) (sym has.2)
