-- Names, as the code tests them.
use Rattle.std.proofs.Common.{◌≡◌, ◌≤◌, Bool, true, not, List, ℕ, length, slice_index, nat_le, refl, arith, ◌&&◌}
use Rattle.std.proofs.lemmas.Bool.Decides.{nat_tests}
use Rattle.std.specs.List.{list_all}
use Rattle.std.specs.Char.{is_ascii_alphabetic}
use Rattle.flat_places.specs.Names.{is_name, is_name_byte, is_reserved}
use Rattle.std.proofs.lemmas.Bool.{and_parts}

le_test : (a b : ℕ) → a ≤ b → nat_le a b ≡ true
le_test a b h = grind (arith, nat_tests)

four : (a b c d r : Bool) → a ≡ true → b ≡ true → c ≡ true → r ≡ d → not r ≡ (a && b && c && not d)
four a b c d r x y z w = rw (x, y, z, w) refl

pub is_name_when : (word : List ℕ) (r : Bool) → is_ascii_alphabetic (slice_index word 0) ≡ true → list_all is_name_byte word ≡ true → length word ≤ 16
    → r ≡ is_reserved word → not r ≡ is_name word
is_name_when word r first rest short is = four _ (list_all is_name_byte word) _ (is_reserved word) r first rest (le_test _ _ short) is

four_true : (a b c d : Bool) → (a && b && c && d) ≡ true → (b ≡ true) × (c ≡ true)
four_true a b c d h = let first = and_parts (a && b && c) d h in let second = and_parts (a && b) c first.0 in ((and_parts a b second.0).1, second.1)

pub is_name-bytes : (word : List ℕ) → is_name word ≡ true → list_all is_name_byte word ≡ true
is_name-bytes word h = (four_true _ (list_all is_name_byte word) _ _ h).0

pub is_name-short : (word : List ℕ) → is_name word ≡ true → length word ≤ 16
is_name-short word h = let short = (four_true _ (list_all is_name_byte word) (nat_le (length word) 16) _ h).1 in grind (arith, nat_tests)
