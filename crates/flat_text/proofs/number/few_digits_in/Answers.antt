use Rattle.std.proofs.Common.{◌≡◌, ◌<◌, ◌≤◌, ◌^◌, ◌+◌, ◌*◌, ◌-◌, ℕ, true, arith, lit<, rules, tests, sym, ◌∙◌, get_or}
use Rattle.std.specs.Char.{is_ascii_digit}
use Rattle.std.proofs.Math.Nat.{pow-le-pow_right}
use Rattle.flat_text.proofs.number.few_digits_in.Goals as goal

digit_range : (c : ℕ) → is_ascii_digit c ≡ true → (48 ≤ c) × (c ≤ 57)
digit_range c h = search (rules, tests)

below_19 : (n i d : ℕ) → n < 10 ^ i → i < 19 → d ≤ 9 → n * 10 + d < 2 ^ 64
below_19 n i d below few digit =
    let most : 10 ^ i ≤ 10 ^ 18 = pow-le-pow_right {n = 10} (lit< tt) {i = i} {j = 18} (omega arith) in
    omega arith

pub overflow_mul-n : goal.overflow_mul-n
overflow_mul-n c = omega (arith, below_19 c.loop-b.n c.loop-b.b-index 0 c.loop-b.invariant.below (omega arith) (omega arith))

pub overflow_add-n : goal.overflow_add-n
overflow_add-n c =
    let range = digit_range (get_or c.args.word.now c.loop-b.b-index 0) (sym c.is_ascii_digit.ensures.value ∙ c.if-not-is_ascii_digit.false) in
    omega (arith, below_19 c.loop-b.n c.loop-b.b-index (get_or c.args.word.now c.loop-b.b-index 0 - 48) c.loop-b.invariant.below (omega arith) (omega arith))
