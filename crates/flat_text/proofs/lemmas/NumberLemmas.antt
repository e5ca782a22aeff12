-- A word is a number just where it is the decimal text of that number.
use Rattle.std.proofs.Common.{◌≡◌, ℕ, zero, suc, ◌+◌, ◌*◌, ◌-◌, ◌/◌, ◌%◌, ◌^◌, ◌<◌, ◌≤◌, ◌==◌, Bool, true, false, cond, List, [], ◌∷◌, ◌++◌, length, Option}
use Rattle.std.proofs.Common.{Some, None, refl, sym, ◌∙◌, ap, arith, rules, append_assoc, ℤ, pos, negsuc, neg_ℤ, nat_lt, get_or, lit<, lit≤, if◌then◌else◌}
use Rattle.std.proofs.Common.{tests, append-nil, length-append, ◌≢◌, unwrap_or, option_map}
use Rattle.std.proofs.lemmas.Bool.Decides.{nat_tests}
use Rattle.std.proofs.lemmas.Grind.{pow_more}
use Rattle.std.proofs.Math.Nat.{pow-le-pow_right}
use Rattle.std.specs.Prelude.{unsigned_abs}
use Rattle.std.specs.Char.{is_ascii_digit}
use Rattle.std.specs.Str.{all_ascii_digits}
use Rattle.std.specs.Fmt.{decimal, signed_decimal}
use Rattle.std.proofs.lemmas.Fmt.{decimal_is_IsNumeral_wide, decimal_step_wide, decimal_digit, decimal_by_steps_wide, length-decimal-le_wide}
use Rattle.std.proofs.lemmas.Str.Parse.{IsNumeralModel, numerals_by_fold}
use Rattle.flat_text.specs.Number.{digits_after, positive, natural, signed}
use Rattle.std.proofs.lemmas.Bool.{and_parts}

abbrev read_on : ℕ → List ℕ → ℕ
read_on n [] = n
read_on n (c ∷ cs) = read_on (n * 10 + (c - 48)) cs

own : IsNumeralModel (λ ds. all_ascii_digits ds ≡ true) (read_on 0)
own = numerals_by_fold _ (search rules) read_on (search rules)

-- a choice that gave a value
chosen : {A : Type 0} (b : Bool) (x : Option A) (y : A) → (if b then x else None) ≡ Some y → (b ≡ true) × (x ≡ Some y)
chosen true x y h = (refl, h)
chosen false x y h = absurd (cc)

digit_range : (c : ℕ) → is_ascii_digit c ≡ true → (48 ≤ c) × (c ≤ 57)
digit_range c h = search (rules, tests)

digits_after-read_on : (n : ℕ) (ds : List ℕ) → all_ascii_digits ds ≡ true → digits_after n ds ≡ Some (read_on n ds)
digits_after-read_on n [] h = refl
digits_after-read_on n (c ∷ cs) h =
    let both = and_parts (is_ascii_digit c) (all_ascii_digits cs) h in
    rw both.0 (digits_after-read_on (n * 10 + (c - 48)) cs both.1)

-- the digits of a number give the number
digits_after-decimal : (n : ℕ) → n < 10 ^ 64 → digits_after 0 (decimal n) ≡ Some n
digits_after-decimal n small =
    let numeral = decimal_is_IsNumeral_wide n small in
    digits_after-read_on 0 (decimal n) (own.from (decimal n) numeral.0.1) ∙ ap Some (own.same (decimal n) numeral.0.1 ∙ numeral.1)

-- a digit after a number
decimal_next : (n c : ℕ) → 0 < n → n * 10 + (c - 48) < 10 ^ 64 → 48 ≤ c → c ≤ 57 → decimal (n * 10 + (c - 48)) ≡ decimal n ++ (c ∷ [])
decimal_next n c more small low high =
    let d = c - 48 in
    let front : (n * 10 + d) / 10 ≡ n = omega arith in
    let last : 48 + (n * 10 + d) % 10 ≡ c = omega arith in
    decimal_step_wide (n * 10 + d) (omega arith) small ∙ rw (front, last) refl

-- what digits write after a number is the text of the number and the digits
decimal-digits_after : (n m k : ℕ) (ds : List ℕ) → 0 < n → n < 10 ^ k → k + length ds ≤ 20 → digits_after n ds ≡ Some m → decimal m ≡ decimal n ++ ds
decimal-digits_after n m k [] more below few is =
    let same : n ≡ m = cc in
    rw same (sym (append-nil _))
decimal-digits_after n m k (c ∷ cs) more below few is =
    let digit = chosen (is_ascii_digit c) _ m is in
    let range = digit_range c digit.0 in
    let next = n * 10 + (c - 48) in
    let below_next : next < 10 ^ (k + 1) = rw pow_more (omega arith) in
    let few_next : k + 1 + length cs ≤ 20 = omega arith in
    let wide : 10 ^ (k + 1) ≤ 10 ^ 64 = pow-le-pow_right {n = 10} (lit< tt) {i = k + 1} {j = 64} (omega arith) in
    decimal-digits_after next m (k + 1) cs (omega arith) below_next few_next digit.1
    ∙ rw (decimal_next n c more (omega arith) range.0 range.1) (append_assoc (decimal n) (c ∷ []) cs)

-- the text of a number above 0 isn't empty and doesn't begin with a zero
pub record Starts (ds : List ℕ) : Type 0 where
  pub nonempty : 0 < length ds
  pub no_zero : 48 < get_or ds 0 0

first_more : (ds : List ℕ) (c : ℕ) → Starts ds → Starts (ds ++ (c ∷ []))
first_more [] c s = absurd (omega (arith, s.nonempty))
first_more (d ∷ ds) c s = record { nonempty = omega (arith, length-append {A = ℕ}); no_zero = s.no_zero }

first_of_decimal : (n : ℕ) → n < 10 ^ 64 → 0 < n → Starts (decimal n)
first_of_decimal = decimal_by_steps_wide (λ n ds. 0 < n → Starts ds)
    (λ n small more. record { nonempty = lit< tt; no_zero = omega arith })
    (λ n ds big starts more. first_more ds (48 + n % 10) (starts (omega arith)))

positive-digits : (ds : List ℕ) (n : ℕ) → Starts ds → length ds ≤ 20 → digits_after 0 ds ≡ Some n → positive ds ≡ Some n
positive-digits [] n s few is = absurd (omega (arith, s.nonempty))
positive-digits (c ∷ cs) n s few is =
    let head : 48 < c = s.no_zero in
    let other : (c == 48) ≡ false = grind (arith, nat_tests) in
    let short : nat_lt (length cs) 20 ≡ true = grind (arith, nat_tests) in
    rw (other, short) is

pub positive-decimal : (n : ℕ) → 0 < n → n < 10 ^ 20 → positive (decimal n) ≡ Some n
positive-decimal n more small =
    let wide : n < 10 ^ 64 = omega (arith, lit≤ {m = 10 ^ 20} {n = 10 ^ 64} tt) in
    positive-digits (decimal n) n (first_of_decimal n wide more) (length-decimal-le_wide 20 n (lit< tt) small wide) (digits_after-decimal n wide)

refused : {A : Type 0} (b : Bool) (x : Option A) (y : A) → (if b then None else x) ≡ Some y → (b ≡ false) × (x ≡ Some y)
refused true x y h = absurd (cc)
refused false x y h = (refl, h)

eq_false : (a b : ℕ) → (a == b) ≡ false → a ≢ b
eq_false a b h = grind (arith, nat_tests)

above_zero : (c : ℕ) (cs : List ℕ) (n : ℕ) → c ≢ 48 → decimal n ≡ c ∷ cs → 0 < n
above_zero c cs zero other is = let glyph = decimal_digit 0 (lit< tt) in absurd (other (cc))
above_zero c cs (suc n) other is = omega arith

lt_true : (a b : ℕ) → nat_lt a b ≡ true → a < b
lt_true a b h = grind (arith, nat_tests)

below-digits_after : (n m k j : ℕ) (ds : List ℕ) → n < 10 ^ k → k + length ds ≡ j → digits_after n ds ≡ Some m → m < 10 ^ j
below-digits_after n m k j [] below few is =
    let same : n ≡ m = cc in
    let whole : k ≡ j = omega arith in
    rw (← same, ← whole) below
below-digits_after n m k j (c ∷ cs) below few is =
    let digit = chosen (is_ascii_digit c) _ m is in
    let range = digit_range c digit.0 in
    let next = n * 10 + (c - 48) in
    let below_next : next < 10 ^ (k + 1) = rw pow_more (omega arith) in
    below-digits_after next m (k + 1) j cs below_next (omega arith) digit.1

pub decimal-positive : (word : List ℕ) (n : ℕ) → positive word ≡ Some n → (decimal n ≡ word) × (0 < n) × (n < 10 ^ 20)
decimal-positive [] n is = absurd (cc)
decimal-positive (c ∷ cs) n is =
    let started = refused (c == 48) _ n is in
    let other = eq_false c 48 started.0 in
    let few = chosen (nat_lt (length cs) 20) _ n started.1 in
    let digit = chosen (is_ascii_digit c) _ n few.1 in
    let range = digit_range c digit.0 in
    let first = 0 * 10 + (c - 48) in
    let glyph : decimal first ≡ c ∷ [] = decimal_digit first (omega arith) ∙ ap (λ x. x ∷ []) (omega arith) in
    let whole : decimal n ≡ decimal first ++ cs = decimal-digits_after first n 1 cs (omega arith) (omega arith) (omega (arith, lt_true _ _ few.0)) digit.1 in
    let within : n < 10 ^ (1 + length cs) = below-digits_after first n 1 (1 + length cs) cs (omega arith) refl digit.1 in
    let most : 10 ^ (1 + length cs) ≤ 10 ^ 20 = pow-le-pow_right {n = 10} (lit< tt) {i = 1 + length cs} {j = 20} (omega (arith, lt_true _ _ few.0)) in
    let spelled : decimal n ≡ c ∷ cs = whole ∙ rw glyph refl in
    (spelled, above_zero c cs n other spelled, omega arith)

either : {A : Type 0} (b : Bool) (x y z : A) → x ≡ z → y ≡ z → cond b x y ≡ z
either true x y z p q = p
either false x y z p q = q

-- The text of a number without a sign is read as that number.
pub natural-decimal : (n : ℕ) → n < 10 ^ 20 → natural (decimal n) ≡ Some n
natural-decimal zero small = rw (decimal_digit 0 (lit< tt)) refl
natural-decimal (suc n) small =
    let wide : suc n < 10 ^ 64 = omega (arith, lit≤ {m = 10 ^ 20} {n = 10 ^ 64} tt) in
    either _ _ _ (Some (suc n)) (digits_after-decimal (suc n) wide) (positive-decimal (suc n) (omega arith) small)

-- What is read as a number without a sign is the text of that number.
pub decimal-natural : (word : List ℕ) (n : ℕ) → natural word ≡ Some n → (decimal n ≡ word) × (n < 10 ^ 20)
decimal-natural [] n is = absurd (cc)
decimal-natural (c ∷ []) n is =
    let digit = chosen (is_ascii_digit c) _ n is in
    let range = digit_range c digit.0 in
    let same : c - 48 ≡ n = omega (arith, ap (λ o. unwrap_or o 0) digit.1) in
    (decimal_digit n (omega arith) ∙ ap (λ x. x ∷ []) (omega arith), omega arith)
decimal-natural (c ∷ d ∷ cs) n is =
    let long : (length (c ∷ d ∷ cs) == 1) ≡ false = grind (arith, nat_tests) in
    let found = decimal-positive (c ∷ d ∷ cs) n (rw long at is) in
    (found.0, found.2)

-- a word that is no text of a negative number
unsigned-signed : (c : ℕ) (cs : List ℕ) (n : ℕ) → c ≢ 45 → natural (c ∷ cs) ≡ Some n → signed (c ∷ cs) ≡ Some (pos n)
unsigned-signed c cs n other is =
    let sign : (c == 45) ≡ false = grind (arith, nat_tests) in
    rw (sign, is) refl

digits-signed : (word : List ℕ) (n : ℕ) → Starts word → natural word ≡ Some n → signed word ≡ Some (pos n)
digits-signed [] n s is = absurd (cc)
digits-signed (c ∷ cs) n s is = unsigned-signed c cs n (let head : 48 < c = s.no_zero in omega arith) is

-- The text of a number is read as that number.
pub signed-signed_decimal : (v : ℤ) → unsigned_abs v < 10 ^ 20 → signed (signed_decimal v) ≡ Some v
signed-signed_decimal (pos zero) small = rw (decimal_digit 0 (lit< tt)) refl
signed-signed_decimal (pos (suc n)) small =
    let wide : suc n < 10 ^ 64 = omega (arith, lit≤ {m = 10 ^ 20} {n = 10 ^ 64} tt) in
    digits-signed (decimal (suc n)) (suc n) (first_of_decimal (suc n) wide (omega arith)) (natural-decimal (suc n) small)
signed-signed_decimal (negsuc n) small = rw (positive-decimal (suc n) (omega arith) small) refl

some_then : {A B : Type 0} (f : A → B) (o : Option A) (y : B) → option_map f o ≡ Some y → (x : A) × (o ≡ Some x) × (f x ≡ y)
some_then f None y is = absurd (cc)
some_then f (Some x) y is = (x, refl, cc)

negative : (c n : ℕ) (cs : List ℕ) (v : ℤ) → c ≡ 45 → neg_ℤ (pos n) ≡ v → 0 < n → decimal n ≡ cs → n < 10 ^ 20
    → (signed_decimal v ≡ c ∷ cs) × (unsigned_abs v < 10 ^ 20)
negative c zero cs v minus same more is small = absurd (omega arith)
negative c (suc n) cs v minus same more is small = rw (← same) (rw minus (ap (λ ds. 45 ∷ ds) is), small)

unsigned : (n : ℕ) (word : List ℕ) (v : ℤ) → pos n ≡ v → decimal n ≡ word → n < 10 ^ 20 → (signed_decimal v ≡ word) × (unsigned_abs v < 10 ^ 20)
unsigned n word v same is small = rw (← same) (is, small)

signed_spelled : (b : Bool) (c : ℕ) (cs : List ℕ) (v : ℤ) → (c == 45) ≡ b
    → cond b (option_map (λ n. neg_ℤ (pos n)) (positive cs)) (option_map pos (natural (c ∷ cs))) ≡ Some v
    → (signed_decimal v ≡ c ∷ cs) × (unsigned_abs v < 10 ^ 20)
signed_spelled true c cs v test is =
    let found = some_then (λ n. neg_ℤ (pos n)) (positive cs) v is in
    let spelled = decimal-positive cs found.0 found.1 in
    negative c found.0 cs v (grind (arith, nat_tests)) found.2 spelled.1 spelled.0 spelled.2
signed_spelled false c cs v test is =
    let found = some_then pos (natural (c ∷ cs)) v is in
    let spelled = decimal-natural (c ∷ cs) found.0 found.1 in
    unsigned found.0 (c ∷ cs) v found.2 spelled.0 spelled.1

-- What is read as a number is the text of that number.
pub signed_decimal-signed : (word : List ℕ) (v : ℤ) → signed word ≡ Some v → (signed_decimal v ≡ word) × (unsigned_abs v < 10 ^ 20)
signed_decimal-signed [] v is = absurd (cc)
signed_decimal-signed (c ∷ cs) v is = signed_spelled (c == 45) c cs v refl is
