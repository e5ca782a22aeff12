-- Numbers as words: `0`, or digits without a leading zero, or `-` and digits without a leading zero.
use Rattle.std.specs.Prelude.{ℕ, ◌+◌, ◌*◌, ◌-◌, ◌==◌, nat_lt, ℤ, pos, neg_ℤ, List, [], ◌∷◌, length, Option, Some, None}
use Rattle.std.specs.Prelude.{if◌then◌else◌, option_map}
use Rattle.std.specs.Char.{is_ascii_digit}

-- the number that the digits write after those of n
abbrev pub digits_after : ℕ → List ℕ → Option ℕ
digits_after n [] = Some n
digits_after n (c ∷ cs) = if is_ascii_digit c then digits_after (n * 10 + (c - 48)) cs else None

-- a number above 0: at most 20 digits, the first one not a zero
abbrev pub positive : List ℕ → Option ℕ
positive [] = None
positive (c ∷ cs) = if c == 48 then None else (if nat_lt (length cs) 20 then digits_after 0 (c ∷ cs) else None)

-- a number without a sign: one digit, or a number above 0
abbrev pub natural : List ℕ → Option ℕ
natural word = if length word == 1 then digits_after 0 word else positive word

-- a number that may have a sign: `-` and a number above 0, or a number without a sign
abbrev pub signed : List ℕ → Option ℤ
signed [] = None
signed (c ∷ cs) = if c == 45 then option_map (λ n. neg_ℤ (pos n)) (positive cs) else option_map pos (natural (c ∷ cs))
