-- A time that isn't before another one, case by case.
use Rattle.std.proofs.Common.{◌≡◌, ℕ, ◌<◌, ◌≤◌, ◌+◌, true, false, Option, Some, None, Ok, Err, ◌∙◌, ap, arith, nat_le, nat_lt, refl, Bool, if◌then◌else◌}
use Rattle.std.proofs.Common.{option_and_then}
use Rattle.std.proofs.lemmas.Bool.Decides.{nat_tests}
use Rattle.flat_base.specs.declared.limits.TheConstants.{TIME_MAX}
use Rattle.flat_places.specs.declared.kinds.FaultKind.TheVariants.{BadNumber, BadOrder}
use Rattle.flat_places.specs.Forms.{Reading, both, or_kind}
use Rattle.flat_forms.specs.Body.{in_order}

-- the time of the number, where one was read
abbrev timed : ℕ → Option ℕ → Reading ℕ
timed least number = in_order least (both (λ v _. v) (or_kind BadNumber (option_and_then (λ n. if nat_lt n (TIME_MAX + 1) then Some n else None) number))
    (Ok (tt {0})))

-- the same, where its tests are known
abbrev tested : ℕ → ℕ → Bool → Reading ℕ
tested least n b = in_order least (both (λ v _. v) (or_kind BadNumber (if b then Some n else None)) (Ok (tt {0})))

pub time_late : (least n : ℕ) (number : Option ℕ) → number ≡ Some n → TIME_MAX < n → timed least number ≡ Err BadNumber
time_late least n number is late =
    let test : nat_lt n (TIME_MAX + 1) ≡ false = grind (arith, nat_tests) in
    ap (timed least) is ∙ ap (tested least n) test

pub time_early : (least n : ℕ) (number : Option ℕ) → number ≡ Some n → n ≤ TIME_MAX → n < least → timed least number ≡ Err BadOrder
time_early least n number is within early =
    let test : nat_lt n (TIME_MAX + 1) ≡ true = grind (arith, nat_tests) in
    let order : nat_le least n ≡ false = grind (arith, nat_tests) in
    ap (timed least) is ∙ ap (tested least n) test ∙ rw order refl

pub time_found : (least n : ℕ) (number : Option ℕ) → number ≡ Some n → n ≤ TIME_MAX → least ≤ n → timed least number ≡ Ok n
time_found least n number is within after =
    let test : nat_lt n (TIME_MAX + 1) ≡ true = grind (arith, nat_tests) in
    let order : nat_le least n ≡ true = grind (arith, nat_tests) in
    ap (timed least) is ∙ ap (tested least n) test ∙ rw order refl
