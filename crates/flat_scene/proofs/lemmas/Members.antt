-- Items of lists, by recursion.
use Rattle.std.proofs.Common.{◌≡◌, ℕ, ◌<◌, Bool, true, false, List, [], ◌∷◌, ◌++◌, length, refl, arith, inl, inr, ◌⊎◌, sym, subst}
use Rattle.std.specs.Prelude.{zero, suc, ◌||◌, ◌&&◌}
use Rattle.std.specs.List.{Contains, list_any, list_all}

-- x is one of the list
abbrev pub IsIn : {A : Type 0} → A → List A → Type 0
IsIn x [] = ⊥
IsIn x (y ∷ ys) = (x ≡ y) ⊎ IsIn x ys

pub contained-in : {A : Type 0} (x : A) (xs : List A) → Contains xs x → IsIn x xs
contained-in x [] (k, low, same) = absurd (omega (arith, low))
contained-in x (y ∷ ys) (zero, low, same) = inl (sym same)
contained-in x (y ∷ ys) (suc k, low, same) = inr (contained-in x ys (k, omega (arith, low), same))

pub in-contained : {A : Type 0} (x : A) (xs : List A) → IsIn x xs → Contains xs x
in-contained x [] here = absurd here
in-contained x (y ∷ ys) (inl same) = (0, omega arith, sym same)
in-contained x (y ∷ ys) (inr here) = let there = in-contained x ys here in (suc there.0, omega (arith, there.1), there.2)

-- an item that passes a test, where some item does
pub some-in : {A : Type 0} (p : A → Bool) (xs : List A) → list_any p xs ≡ true → (x : A) × IsIn x xs × (p x ≡ true)
some-in p [] some = absurd (cc)
some-in {A = A} p (y ∷ ys) some = by_first (some-in p ys) (p y) refl
  where
    by_first : (list_any p ys ≡ true → (x : A) × IsIn x ys × (p x ≡ true)) → (b : Bool) → p y ≡ b → (x : A) × IsIn x (y ∷ ys) × (p x ≡ true)
    by_first later true here = (y, inl refl, here)
    by_first later false here = let there = later (grind arith) in (there.0, inr there.1, there.2)

pub in-some : {A : Type 0} (p : A → Bool) (x : A) (xs : List A) → IsIn x xs → p x ≡ true → list_any p xs ≡ true
in-some p x [] here passes = absurd here
in-some p x (y ∷ ys) (inl same) passes = let first : p y ≡ true = subst (λ z. p z ≡ true) same passes in grind arith
in-some p x (y ∷ ys) (inr here) passes = let later : list_any p ys ≡ true = in-some p x ys here passes in grind arith

-- an item of one part is one of the whole
pub in-left : {A : Type 0} (x : A) (xs ys : List A) → IsIn x xs → IsIn x (xs ++ ys)
in-left x (y ∷ xs) ys (inl same) = inl same
in-left x (y ∷ xs) ys (inr here) = inr (in-left x xs ys here)
in-left x [] ys here = absurd here

pub in-right : {A : Type 0} (x : A) (xs ys : List A) → IsIn x ys → IsIn x (xs ++ ys)
in-right x [] ys here = here
in-right x (y ∷ xs) ys here = inr (in-right x xs ys here)

-- where one test holds of some item and another of each, both hold of one
pub any-with-all : {A P : Type 0} (p q : A → Bool) → ((x : A) → p x ≡ true → q x ≡ true → P) → (xs : List A) → list_any p xs ≡ true → list_all q xs ≡ true → P
any-with-all p q step [] some each = absurd (cc)
any-with-all {A = A} {P = P} p q step (x ∷ xs) some each = by_first (any-with-all p q step xs) (p x) refl
  where
    by_first : (list_any p xs ≡ true → list_all q xs ≡ true → P) → (b : Bool) → p x ≡ b → P
    by_first later true here = step x here (grind arith)
    by_first later false here = later (grind arith) (grind arith)
