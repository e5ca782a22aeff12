-- Lines of a text whose bytes are plain or line feeds.
use Rattle.std.proofs.Common.{◌≡◌, ℕ, zero, suc, ◌+◌, Bool, true, false, not, ◌&&◌, ◌||◌, cond, List, [], ◌∷◌, take, drop, refl, ◌∙◌, ap, arith}
use Rattle.std.specs.List.{list_all, position_or_len, before_first, after_first}
use Rattle.std.proofs.lemmas.Bool.{and_parts}
use Rattle.flat_text.specs.Pieces.{is_feed}
use Rattle.flat_script.specs.Grammar.{is_plain}
use Rattle.flat_script.specs.Plain.{is_text_byte}

all_drop : (p : ℕ → Bool) (n : ℕ) (xs : List ℕ) → list_all p xs ≡ true → list_all p (drop n xs) ≡ true
all_drop p zero xs all = all
all_drop p (suc n) [] all = refl
all_drop p (suc n) (x ∷ xs) all = all_drop p n xs (and_parts (p x) (list_all p xs) all).1

plain_byte : (a b : Bool) → (a || b) ≡ true → b ≡ false → a ≡ true
plain_byte true b either none = refl
plain_byte false true either none = absurd (cc)
plain_byte false false either none = absurd (cc)

both : (a b : Bool) → a ≡ true → b ≡ true → (a && b) ≡ true
both a b one other = rw (one, other) refl

first_by : (b : Bool) (x : ℕ) (xs : List ℕ) → is_feed x ≡ b → is_text_byte x ≡ true → list_all is_plain (take (position_or_len is_feed xs) xs) ≡ true
    → list_all is_plain (take (cond (not b) (1 + position_or_len is_feed xs) 0) (x ∷ xs)) ≡ true
first_by true x xs is text rest = refl
first_by false x xs is text rest =
    let n : ℕ = position_or_len is_feed xs in
    let one : is_plain x ≡ true = plain_byte (is_plain x) (is_feed x) text is in
    let next : 1 + n ≡ suc n = omega arith in
    ap (λ k. list_all is_plain (take k (x ∷ xs))) next ∙ both (is_plain x) (list_all is_plain (take n xs)) one rest

plain_first : (text : List ℕ) → list_all is_text_byte text ≡ true → list_all is_plain (before_first is_feed text) ≡ true
plain_first [] all = refl
plain_first (x ∷ text) all =
    let parts = and_parts (is_text_byte x) (list_all is_text_byte text) all in
    first_by (is_feed x) x text refl parts.0 (plain_first text parts.1)

-- the first line, and what is left
pub first_plain : (plain : Bool) (text first : List ℕ) → (plain ≡ true → list_all is_text_byte text ≡ true) → first ≡ before_first is_feed text → plain ≡ true
    → list_all is_plain first ≡ true
first_plain plain text first known is sure = ap (list_all is_plain) is ∙ plain_first text (known sure)

pub rest_plain : (plain : Bool) (text rest : List ℕ) → (plain ≡ true → list_all is_text_byte text ≡ true) → rest ≡ after_first is_feed text → plain ≡ true
    → list_all is_text_byte rest ≡ true
rest_plain plain text rest known is sure = ap (list_all is_text_byte) is ∙ all_drop is_text_byte (position_or_len is_feed text + 1) text (known sure)
