-- Texts of lines, laid out from the front, and which words begin them.
use Rattle.std.proofs.Common.{◌≡◌, ℕ, zero, suc, ◌+◌, ◌<◌, ◌/◌, ◌%◌, ◌==◌, ◌&&◌, nat_lt, nat_le, Bool, true, false, cond, List, [], ◌∷◌, ◌++◌, refl, sym, ap}
use Rattle.std.proofs.Common.{◌∙◌, append_assoc, append-nil, arith}
use Rattle.std.specs.List.{list_all}
use Rattle.std.specs.Fmt.{digits, digits_onto, digit_glyph}
use Rattle.std.proofs.lemmas.Bool.Decides.{nat_tests}
use Rattle.std.proofs.lemmas.List.{append_cancel_left}
use Rattle.flat_page.specs.Words.{spaced, line_of, text_of, number}
use Rattle.flat_places.specs.Forms.{Word}
use Rattle.std.proofs.lemmas.Bool.{and_parts, and_from}

-- ---- texts from the front

-- what stands behind the first word of a line, and behind the line
abbrev pub laid : List Word → List ℕ → List ℕ
laid [] rest = 10 ∷ rest
laid (w ∷ ws) rest = 32 ∷ (w ++ laid ws rest)

-- a line, and what stands behind it
abbrev pub line_on : List Word → List ℕ → List ℕ
line_on [] rest = 10 ∷ rest
line_on (w ∷ ws) rest = w ++ laid ws rest

-- lines, and what stands behind them
abbrev pub sheet : List (List Word) → List ℕ → List ℕ
sheet [] rest = rest
sheet (words ∷ lines) rest = line_on words (sheet lines rest)

laid-spaced : (ws : List Word) (rest : List ℕ) → spaced ws ++ 10 ∷ rest ≡ laid ws rest
laid-spaced [] rest = refl
laid-spaced (w ∷ ws) rest = ap (λ t. 32 ∷ t) (append_assoc w (spaced ws) (10 ∷ rest) ∙ ap (λ t. w ++ t) (laid-spaced ws rest))

line-on : (words : List Word) (rest : List ℕ) → line_of words ++ 10 ∷ rest ≡ line_on words rest
line-on [] rest = refl
line-on (w ∷ ws) rest = append_assoc w (spaced ws) (10 ∷ rest) ∙ ap (λ t. w ++ t) (laid-spaced ws rest)

pub text-sheet : (lines : List (List Word)) (rest : List ℕ) → text_of lines ++ rest ≡ sheet lines rest
text-sheet [] rest = refl
text-sheet (words ∷ lines) rest =
    append_assoc (line_of words ++ 10 ∷ []) (text_of lines) rest ∙ append_assoc (line_of words) (10 ∷ []) (text_of lines ++ rest)
    ∙ ap (λ t. line_of words ++ 10 ∷ t) (text-sheet lines rest) ∙ line-on words (sheet lines rest)

pub text-is : (lines : List (List Word)) → text_of lines ≡ sheet lines []
text-is lines = sym (append-nil (text_of lines)) ∙ text-sheet lines []

pub sheet-append : (xs ys : List (List Word)) (rest : List ℕ) → sheet (xs ++ ys) rest ≡ sheet xs (sheet ys rest)
sheet-append [] ys rest = refl
sheet-append (words ∷ xs) ys rest = ap (line_on words) (sheet-append xs ys rest)

-- ---- what stands behind the same lines is the same

behind-one : (c : ℕ) (a b : List ℕ) → c ∷ a ≡ c ∷ b → a ≡ b
behind-one c a b is = cc

pub laid-same : (ws : List Word) (a b : List ℕ) → laid ws a ≡ laid ws b → a ≡ b
laid-same [] a b is = behind-one 10 a b is
laid-same (w ∷ ws) a b is = laid-same ws a b (append_cancel_left w (laid ws a) (laid ws b) (behind-one 32 _ _ is))

-- what stands behind the same words of a line is the same
pub behind-words : (us ws vs : List Word) (a b : List ℕ) → laid (us ++ ws) a ≡ laid (us ++ vs) b → laid ws a ≡ laid vs b
behind-words [] ws vs a b is = is
behind-words (u ∷ us) ws vs a b is = behind-words us ws vs a b (append_cancel_left u (laid (us ++ ws) a) (laid (us ++ vs) b) (behind-one 32 _ _ is))

pub line-same : (words : List Word) (a b : List ℕ) → line_on words a ≡ line_on words b → a ≡ b
line-same [] a b is = behind-one 10 a b is
line-same (w ∷ ws) a b is = laid-same ws a b (append_cancel_left w (laid ws a) (laid ws b) is)

pub sheet-same : (lines : List (List Word)) (a b : List ℕ) → sheet lines a ≡ sheet lines b → a ≡ b
sheet-same [] a b is = is
sheet-same (words ∷ lines) a b is = sheet-same lines a b (line-same words (sheet lines a) (sheet lines b) is)

-- ---- words

-- a word has no space and no line feed
abbrev pub is_word : Word → Bool
is_word w = list_all (nat_lt 32) w

split-differs : (b c : ℕ) → nat_lt 32 b ≡ true → nat_lt 32 c ≡ false → b ≡ c → ⊥
split-differs b c high low is = cc

heads : (b c : ℕ) (xs ys : List ℕ) → b ∷ xs ≡ c ∷ ys → (b ≡ c) × (xs ≡ ys)
heads b c xs ys is = (cc, cc)

word-told : (w v : Word) (c d : ℕ) (xs ys : List ℕ) → is_word w ≡ true → is_word v ≡ true → nat_lt 32 c ≡ false → nat_lt 32 d ≡ false
    → w ++ c ∷ xs ≡ v ++ d ∷ ys → (w ≡ v) × (c ∷ xs ≡ d ∷ ys)
word-told [] [] c d xs ys of_w of_v low_c low_d is = (refl, is)
word-told [] (b ∷ v) c d xs ys of_w of_v low_c low_d is =
    absurd (split-differs b c (and_parts (nat_lt 32 b) (is_word v) of_v).0 low_c (sym (heads c b xs (v ++ d ∷ ys) is).0))
word-told (b ∷ w) [] c d xs ys of_w of_v low_c low_d is =
    absurd (split-differs b d (and_parts (nat_lt 32 b) (is_word w) of_w).0 low_d (heads b d (w ++ c ∷ xs) ys is).0)
word-told (a ∷ w) (b ∷ v) c d xs ys of_w of_v low_c low_d is =
    let first = heads a b (w ++ c ∷ xs) (v ++ d ∷ ys) is in
    let later = word-told w v c d xs ys (and_parts (nat_lt 32 a) (is_word w) of_w).1 (and_parts (nat_lt 32 b) (is_word v) of_v).1 low_c low_d first.1 in
    (ap (λ x. x ∷ w) first.0 ∙ ap (λ t. b ∷ t) later.0, later.1)

-- the first words of two lines that begin the same text
pub told : (w v : Word) (ws vs : List Word) (a b : List ℕ) → is_word w ≡ true → is_word v ≡ true → w ++ laid ws a ≡ v ++ laid vs b
    → (w ≡ v) × (laid ws a ≡ laid vs b)
told w v [] [] a b of_w of_v is = word-told w v 10 10 a b of_w of_v refl refl is
told w v [] (y ∷ vs) a b of_w of_v is = word-told w v 10 32 a (y ++ laid vs b) of_w of_v refl refl is
told w v (x ∷ ws) [] a b of_w of_v is = word-told w v 32 10 (x ++ laid ws a) b of_w of_v refl refl is
told w v (x ∷ ws) (y ∷ vs) a b of_w of_v is = word-told w v 32 32 (x ++ laid ws a) (y ++ laid vs b) of_w of_v refl refl is

-- the next words of two lines
pub told-next : (w v : Word) (ws vs : List Word) (a b : List ℕ) → is_word w ≡ true → is_word v ≡ true → laid (w ∷ ws) a ≡ laid (v ∷ vs) b
    → (w ≡ v) × (laid ws a ≡ laid vs b)
told-next w v ws vs a b of_w of_v is = told w v ws vs a b of_w of_v (behind-one 32 (w ++ laid ws a) (v ++ laid vs b) is)

-- ---- numbers

-- a byte from `0` to `9`
abbrev pub is_digit : ℕ → Bool
is_digit c = nat_le 48 c && nat_le c 57

glyph : (d : ℕ) → d < 10 → is_digit (digit_glyph false d) ≡ true
glyph d low = let one : nat_lt d 10 ≡ true = grind (arith, nat_tests) in rw one (digit d low)
  where
    digit : (d : ℕ) → d < 10 → (nat_le 48 (48 + d) && nat_le (48 + d) 57) ≡ true
    digit d low = grind (arith, nat_tests)

digits-onto : (k n : ℕ) (acc : List ℕ) → list_all is_digit acc ≡ true → list_all is_digit (digits_onto k 10 false n acc) ≡ true
digits-onto zero n acc fine = fine
digits-onto (suc k) n acc fine =
    let more : list_all is_digit (digit_glyph false (n % 10) ∷ acc) ≡ true =
    and_from (is_digit (digit_glyph false (n % 10))) (list_all is_digit acc) (glyph (n % 10) (omega arith)) fine in
    by_last (n / 10 == 0) (digit_glyph false (n % 10) ∷ acc) (digits_onto k 10 false (n / 10) (digit_glyph false (n % 10) ∷ acc)) more
    (digits-onto k (n / 10) (digit_glyph false (n % 10) ∷ acc) more)
  where
    by_last : (b : Bool) (xs ys : List ℕ) → list_all is_digit xs ≡ true → list_all is_digit ys ≡ true → list_all is_digit (cond b xs ys) ≡ true
    by_last true xs ys p q = p
    by_last false xs ys p q = q

pub number-digits : (n : ℕ) → list_all is_digit (number n) ≡ true
unfolding digits
number-digits n = digits-onto 64 n [] refl

digits-word : (xs : List ℕ) → list_all is_digit xs ≡ true → is_word xs ≡ true
digits-word [] fine = refl
digits-word (c ∷ xs) fine =
    let parts = and_parts (is_digit c) (list_all is_digit xs) fine in
    and_from (nat_lt 32 c) (is_word xs) (high c (and_parts (nat_le 48 c) (nat_le c 57) parts.0).0) (digits-word xs parts.1)
  where
    high : (c : ℕ) → nat_le 48 c ≡ true → nat_lt 32 c ≡ true
    high c fine = grind (arith, nat_tests)

pub number-word : (n : ℕ) → is_word (number n) ≡ true
number-word n = digits-word (number n) (number-digits n)
