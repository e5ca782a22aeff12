-- One item of a list is set.
use Rattle.std.proofs.Common.{◌≡◌, ℕ, zero, suc, ◌<◌, List, [], ◌∷◌, length, slice_get, slice_set, Some, refl, ap, arith}

module _ {X : Type 0} where
  pub got-same : (xs : List X) (n : ℕ) (x : X) → n < length xs → slice_get (slice_set xs n x) n ≡ Some x
  got-same [] n x less = absurd (omega arith)
  got-same (y ∷ ys) zero x less = refl
  got-same (y ∷ ys) (suc n) x less = got-same ys n x (omega arith)

  pub got-other : (xs : List X) (n m : ℕ) (x : X) → (m ≡ n → ⊥) → slice_get (slice_set xs n x) m ≡ slice_get xs m
  got-other [] n m x other = refl
  got-other (y ∷ ys) zero zero x other = absurd (other refl)
  got-other (y ∷ ys) zero (suc m) x other = refl
  got-other (y ∷ ys) (suc n) zero x other = refl
  got-other (y ∷ ys) (suc n) (suc m) x other = got-other ys n m x (λ e. other (ap suc e))

  pub set-length : (xs : List X) (n : ℕ) (x : X) → length (slice_set xs n x) ≡ length xs
  set-length [] n x = refl
  set-length (y ∷ ys) zero x = refl
  set-length (y ∷ ys) (suc n) x = ap suc (set-length ys n x)
