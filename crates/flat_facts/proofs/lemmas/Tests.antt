-- What tests of numbers and of pairs say.
use Rattle.std.proofs.Common.{◌≡◌, ℕ, ◌<◌, ◌≤◌, true, arith, Bool, false, refl, ap}
use Rattle.std.proofs.lemmas.Bool.Decides.{nat_tests}
use Rattle.std.specs.Prelude.{nat_lt, nat_le, ◌||◌, ◌==◌}
use Rattle.flat_base.specs.declared.ids.PairNo.{PairNo}

pub lt-of : (m n : ℕ) → nat_lt m n ≡ true → m < n
lt-of m n h = grind (arith, nat_tests)

pub le-of : (m n : ℕ) → nat_le m n ≡ true → m ≤ n
le-of m n h = grind (arith, nat_tests)

pub or-false : (b : Bool) → b ≡ (b || false)
or-false true = refl
or-false false = refl

pub same-pair : (p q : PairNo) → (p.0 == q.0) ≡ true → p ≡ q
same-pair p q is = let number : p.0 ≡ q.0 = grind (arith, nat_tests) in ap (λ (n : ℕ). let r : PairNo = record { 0 = n } in r) number
