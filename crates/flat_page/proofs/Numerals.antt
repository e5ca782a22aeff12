-- How many digits numbers have, and their signs.
use Rattle.std.proofs.Common.{◌≡◌, ℕ, ◌<◌, ◌≤◌, ◌^◌, true, false, [], ◌∷◌, ◌++◌, length, ◌∙◌, arith, sym, refl}
use Rattle.std.proofs.Common.{true≢false, ℤ, pos, negsuc, int_le, unsigned_abs}
use Rattle.std.specs.Fmt.{decimal, signed_decimal}
use Rattle.std.proofs.lemmas.Fmt.{length-decimal-le}
use lib.Dec.{leb-zero}
use Rattle.flat_page.specs.Rooms.{sign}

pub few : (n : ℕ) → n < 2 ^ 64 → length (decimal n) ≤ 20
few n small = length-decimal-le 20 n (omega arith) (omega arith) small

-- ---- signs

pub no_sign : (z : ℤ) → int_le (pos 0) z ≡ true → sign z ≡ []
no_sign (pos n) e = refl
no_sign (negsuc n) e = absurd (true≢false (sym e))

pub minus : (z : ℤ) → int_le (pos 0) z ≡ false → sign z ≡ 45 ∷ []
minus (pos n) e = absurd (true≢false (sym (leb-zero n) ∙ e))
minus (negsuc n) e = refl

pub signed : (z : ℤ) → sign z ++ decimal (unsigned_abs z) ≡ signed_decimal z
signed (pos n) = refl
signed (negsuc n) = refl

pub few_signs : (z : ℤ) → length (sign z) ≤ 1
few_signs (pos n) = omega arith
few_signs (negsuc n) = omega arith
