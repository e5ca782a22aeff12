-- Tests that hold together, and tests of all that a list has.
use Rattle.std.proofs.Common.{◌≡◌, Bool, true, false, ◌&&◌, ◌||◌, List, [], ◌∷◌, ◌++◌, refl}
use Rattle.std.specs.List.{list_any, list_all}
use Rattle.std.proofs.lemmas.Bool.{and_parts, or_parts, and_from, or_from}
pub use Rattle.std.proofs.lemmas.Bool.{or_cases as or-cases}

-- two tests that hold together hold each
pub and-left : (a b : Bool) → (a && b) ≡ true → a ≡ true
and-left a b both = (and_parts a b both).0

pub and-right : (a b : Bool) → (a && b) ≡ true → b ≡ true
and-right a b both = (and_parts a b both).1

-- where one of two is false, each is
pub none-left : (a b : Bool) → (a || b) ≡ false → a ≡ false
none-left a b none = (or_parts a b none).0

pub none-right : (a b : Bool) → (a || b) ≡ false → b ≡ false
none-right a b none = (or_parts a b none).1

pub and-true : {a b : Bool} → a ≡ true → b ≡ true → (a && b) ≡ true
and-true first second = and_from _ _ first second

pub or-false : {a b : Bool} → a ≡ false → b ≡ false → (a || b) ≡ false
or-false first second = or_from _ _ first second

module _ {A : Type 0} where
  -- what holds of all, and of one more
  pub all-more : (p : A → Bool) (xs : List A) (x : A) → list_all p xs ≡ true → p x ≡ true → list_all p (xs ++ x ∷ []) ≡ true
  all-more p [] x all one = and-true one refl
  all-more p (y ∷ xs) x all one = and-true (and-left (p y) (list_all p xs) all) (all-more p xs x (and-right (p y) (list_all p xs) all) one)

  -- what follows for each follows for all
  pub all-also : (p q : A → Bool) → ((x : A) → p x ≡ true → q x ≡ true) → (xs : List A) → list_all p xs ≡ true → list_all q xs ≡ true
  all-also p q also [] all = refl
  all-also p q also (x ∷ xs) all = and-true (also x (and-left (p x) (list_all p xs) all)) (all-also p q also xs (and-right (p x) (list_all p xs) all))

  pub none-also : (p q : A → Bool) → ((x : A) → p x ≡ true → q x ≡ false) → (xs : List A) → list_all p xs ≡ true → list_any q xs ≡ false
  none-also p q also [] all = refl
  none-also p q also (x ∷ xs) all = or-false (also x (and-left (p x) (list_all p xs) all)) (none-also p q also xs (and-right (p x) (list_all p xs) all))

  pub all-at : (p : A → Bool) (xs : List A) (x : A) (ys : List A) → list_all p (xs ++ x ∷ ys) ≡ true → p x ≡ true
  all-at p [] x ys all = and-left (p x) (list_all p ys) all
  all-at p (y ∷ xs) x ys all = all-at p xs x ys (and-right (p y) (list_all p (xs ++ x ∷ ys)) all)
