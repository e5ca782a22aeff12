-- Names are told apart by their keys.
use Rattle.std.proofs.Common.{◌≡◌, ℕ, ◌+◌, ◌*◌, ◌^◌, ◌<◌, ◌≤◌, ◌==◌, Bool, true, false, cond, nat_lt, List, [], ◌∷◌, Option, Some, None, refl, ap, sym, ◌∙◌}
use Rattle.std.proofs.Common.{arith, rules, tests, lit<, Less, Equal, Greater}
use Rattle.std.specs.List.{list_all}
use Rattle.std.specs.Str.{bytes_eq}
use Rattle.std.specs.Ordering.{nat_cmp, is_eq}
use Rattle.std.proofs.lemmas.Bool.{and_parts, cond-false, false_from_ne_true, both_ways, eqb-true, eq-eqb}
use Rattle.std.proofs.lemmas.Bool.Decides.{nat_tests, same_from_decides}
use Rattle.std.proofs.lemmas.Grind.{pow_more}
use Rattle.std.proofs.lemmas.Slice.Eq.{bytes_eq-Decides}
use Rattle.std.proofs.Math.Nat.{pow-le-pow_right}
use Rattle.flat_places.specs.declared.names.NameMeaning.{NameMeaning}
use Rattle.flat_places.specs.Forms.{Word}
use Rattle.flat_places.specs.Index.{key_of}
use Rattle.flat_places.specs.Names.{is_name, is_name_byte}
use Rattle.flat_places.proofs.lemmas.NameLemmas.{is_name-bytes}

name_byte-between : (b : ℕ) → is_name_byte b ≡ true → (0 < b) × (b < 128)
name_byte-between b h = search (rules, tests)

first_digit : (x y k l : ℕ) → x < 128 → y < 128 → x + 256 * k ≡ y + 256 * l → (x ≡ y) × (k ≡ l)
first_digit x y k l small low same = (omega arith, omega arith)

none_left : (y k : ℕ) → 0 < y → 0 ≡ y + 256 * k → ⊥
none_left y k some same = omega arith

-- words of the bytes of names that have one key are one word
same_words : (v w : List ℕ) → list_all is_name_byte v ≡ true → list_all is_name_byte w ≡ true → key_of v ≡ key_of w → v ≡ w
same_words [] [] p q same = refl
same_words [] (y ∷ w) p q same = absurd (none_left y (key_of w) (name_byte-between y (and_parts (is_name_byte y) (list_all is_name_byte w) q).0).0 same)
same_words (x ∷ v) [] p q same = absurd (none_left x (key_of v) (name_byte-between x (and_parts (is_name_byte x) (list_all is_name_byte v) p).0).0 (sym same))
same_words (x ∷ v) (y ∷ w) p q same =
    let left = and_parts (is_name_byte x) (list_all is_name_byte v) p in
    let right = and_parts (is_name_byte y) (list_all is_name_byte w) q in
    let digits = first_digit x y (key_of v) (key_of w) (name_byte-between x left.0).1 (name_byte-between y right.0).1 same in
    ap (λ b. b ∷ v) digits.0 ∙ ap (λ bs. y ∷ bs) (same_words v w left.1 right.1 digits.1)

compared : (a b : ℕ) (less same : Bool) → nat_lt a b ≡ less → (a == b) ≡ same → is_eq (cond less Less (cond same Equal Greater)) ≡ same
compared a b true true less same = absurd (grind (arith, nat_tests))
compared a b true false less same = refl
compared a b false true less same = refl
compared a b false false less same = refl

at_key : (a b : ℕ) → is_eq (nat_cmp a b) ≡ (a == b)
at_key a b = compared a b (nat_lt a b) (a == b) refl refl

key_tells : (w name : Word) → is_name w ≡ true → is_name name ≡ true → (key_of name == key_of w) ≡ bytes_eq w name
key_tells w name one other =
    same_from_decides (key_of name == key_of w) (bytes_eq w name) (
      λ same. sym (same_words name w (is_name-bytes name other) (is_name-bytes w one) (eqb-true (key_of name) (key_of w) same)),
      λ same. eq-eqb (key_of name) (key_of w) (ap key_of (sym same)),
    ) (bytes_eq-Decides w name)

-- what a word means, where one more name is declared
pub declared : (b : Bool) (w name : Word) (m : NameMeaning) (new old : Option NameMeaning) (key : ℕ) → key ≡ key_of name → is_name w ≡ b → is_name name ≡ true
    → new ≡ cond (is_eq (nat_cmp key (key_of w))) (Some m) old
    → cond b new None ≡ cond (bytes_eq w name) (Some m) (cond b old None)
declared true w name m new old key same one other is =
    is ∙ ap (λ k. cond (is_eq (nat_cmp k (key_of w))) (Some m) old) same
    ∙ ap (λ t. cond t (Some m) old) (at_key (key_of name) (key_of w) ∙ key_tells w name one other)
declared false w name m new old key same one other is =
    let apart : bytes_eq w name ≡ false = false_from_ne_true (bytes_eq w name)
    (λ same. both_ways (is_name w) one (ap is_name ((bytes_eq-Decides w name).0 same) ∙ other)) in
    sym (cond-false (bytes_eq w name) (Some m) None apart)

pub no_meaning : (b : Bool) → cond {A = Option NameMeaning} b None None ≡ None
no_meaning true = refl
no_meaning false = refl

-- a key fits its number

pub key_grows : (key b n m : ℕ) → key < 256 ^ n → b < 256 → m ≡ n + 1 → key * 256 + b < 256 ^ m
key_grows key b n m small byte more = rw more (rw pow_more (omega arith))

pub key_fits : (key b n : ℕ) → key < 256 ^ n → n ≤ 15 → b < 256 → key * 256 + b < 2 ^ 128
key_fits key b n small few byte =
    let most : 256 ^ n ≤ 256 ^ 15 = pow-le-pow_right {n = 256} (lit< tt) {i = n} {j = 15} few in
    omega arith
