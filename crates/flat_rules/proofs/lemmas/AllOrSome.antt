-- Lists where all items pass a test, or some do.
use Rattle.std.proofs.Common.{◌≡◌, ◌∙◌, Bool, true, false, List, [], ◌∷◌, ◌++◌, map, refl, arith, ap}
use Rattle.std.specs.Prelude.{flat_map, ◌||◌}
use Rattle.std.specs.List.{list_all, list_any}
use Rattle.std.proofs.lemmas.Grind.{flat_map-append}
use Rattle.std.proofs.lemmas.List.Folds.{list_all-append, list_any-append}
use Rattle.std.proofs.lemmas.Bool.{or_right, or_left, and_from}

pub flat-nested : {X Y Z : Type 0} (f : Y → List Z) (g : X → List Y) (xs : List X) → flat_map f (flat_map g xs) ≡ flat_map (λ x. flat_map f (g x)) xs
flat-nested f g [] = refl
flat-nested f g (x ∷ xs) = flat_map-append f (g x) (flat_map g xs) ∙ ap (λ l. flat_map f (g x) ++ l) (flat-nested f g xs)

-- ---- all

pub all-append : {X : Type 0} (o : X → Bool) (xs ys : List X) → list_all o xs ≡ true → list_all o ys ≡ true → list_all o (xs ++ ys) ≡ true
all-append o xs ys first second = list_all-append o xs ys ∙ and_from (list_all o xs) (list_all o ys) first second

pub all-every : {X : Type 0} (o : X → Bool) → ((x : X) → o x ≡ true) → (xs : List X) → list_all o xs ≡ true
all-every o each [] = refl
all-every o each (x ∷ xs) = rw (each x, all-every o each xs) refl

pub all-map : {X Y : Type 0} (o : Y → Bool) (q : X → Bool) (g : X → Y) → ((x : X) → q x ≡ true → o (g x) ≡ true) → (xs : List X) → list_all q xs ≡ true
    → list_all o (map g xs) ≡ true
all-map o q g each [] all = refl
all-map o q g each (x ∷ xs) all =
    let first : o (g x) ≡ true = each x (grind arith) in
    let rest : list_all o (map g xs) ≡ true = all-map o q g each xs (grind arith) in
    rw (first, rest) refl

pub all-flat : {X Y : Type 0} (o : Y → Bool) (q : X → Bool) (g : X → List Y) → ((x : X) → q x ≡ true → list_all o (g x) ≡ true) → (xs : List X)
    → list_all q xs ≡ true → list_all o (flat_map g xs) ≡ true
all-flat o q g each [] all = refl
all-flat o q g each (x ∷ xs) all = all-append o (g x) (flat_map g xs) (each x (grind arith)) (all-flat o q g each xs (grind arith))

-- ---- some

pub any-same : {X : Type 0} (o q : X → Bool) → ((x : X) → o x ≡ q x) → (xs : List X) → list_any o xs ≡ list_any q xs
any-same o q each [] = refl
any-same o q each (x ∷ xs) = rw (each x, any-same o q each xs) refl

pub any-map : {X Y : Type 0} (o : Y → Bool) (q : X → Bool) (g : X → Y) → ((x : X) → q x ≡ true → o (g x) ≡ true) → (xs : List X) → list_any q xs ≡ true
    → list_any o (map g xs) ≡ true
any-map o q g each [] some = cc
any-map o q g each (x ∷ xs) some = by_first (any-map o q g each xs) (q x) refl some
  where
    by_first : (list_any q xs ≡ true → list_any o (map g xs) ≡ true) → (b : Bool) → q x ≡ b → (b || list_any q xs) ≡ true
        → (o (g x) || list_any o (map g xs)) ≡ true
    by_first later true is some' = or_left (o (g x)) (list_any o (map g xs)) (each x is)
    by_first later false is some' = or_right (o (g x)) (list_any o (map g xs)) (later some')

pub any-flat : {X Y : Type 0} (o : Y → Bool) (q : X → Bool) (g : X → List Y) → ((x : X) → q x ≡ true → list_any o (g x) ≡ true) → (xs : List X)
    → list_any q xs ≡ true → list_any o (flat_map g xs) ≡ true
any-flat o q g each [] some = cc
any-flat o q g each (x ∷ xs) some = list_any-append o (g x) (flat_map g xs) ∙ by_first (any-flat o q g each xs) (q x) refl some
  where
    by_first : (list_any q xs ≡ true → list_any o (flat_map g xs) ≡ true) → (b : Bool) → q x ≡ b → (b || list_any q xs) ≡ true
        → (list_any o (g x) || list_any o (flat_map g xs)) ≡ true
    by_first later true is some' = or_left (list_any o (g x)) (list_any o (flat_map g xs)) (each x is)
    by_first later false is some' = or_right (list_any o (g x)) (list_any o (flat_map g xs)) (later some')
