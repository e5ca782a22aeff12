-- Lists, and the numbers of sessions.
use Rattle.std.proofs.Common.{◌≡◌, ◌∙◌, ℕ, ◌+◌, ◌<◌, Bool, true, false, List, [], ◌∷◌, ◌++◌, filter, refl, arith, ap}
use Rattle.std.specs.Prelude.{◌&&◌, nat_lt, nat_le, flat_map}
use Rattle.std.proofs.lemmas.Bool.Decides.{nat_tests}
use Rattle.std.proofs.lemmas.List.Elements.{filter-append}
use Rattle.flat_scene.specs.declared.setup.Setup.{Setup}
use Rattle.flat_scene.specs.Setups.{is_declared}
use Rattle.flat_rules.specs.Numbers.{number}

pub flat-filtered : {A B : Type 0} (q : B → Bool) (f : A → List B) (xs : List A) → filter q (flat_map f xs) ≡ flat_map (λ x. filter q (f x)) xs
flat-filtered q f [] = refl
flat-filtered q f (x ∷ xs) = filter-append q (f x) (flat_map f xs) ∙ ap (λ l. filter q (f x) ++ l) (flat-filtered q f xs)

le-number : (i n : ℕ) → i < n → (nat_lt 0 (i + 1) && nat_le (i + 1) n) ≡ true
le-number i n below = by_tests (nat_lt 0 (i + 1)) (nat_le (i + 1) n) refl refl
  where
    by_tests : (a b : Bool) → nat_lt 0 (i + 1) ≡ a → nat_le (i + 1) n ≡ b → (a && b) ≡ true
    by_tests true true p q = refl
    by_tests true false p q = absurd (grind (arith, nat_tests))
    by_tests false b p q = absurd (grind (arith, nat_tests))

-- the session at a place is declared
pub number-declared : (setup : Setup) (i n : ℕ) → n ≡ setup.sessions → i < n → is_declared setup (number i) ≡ true
number-declared setup i n same below = le-number i setup.sessions (omega (arith, same, below))
