-- The first piece of a text and the rest.
use Rattle.std.proofs.Common.{◌≡◌, ℕ, ◌+◌, ◌<◌, ◌≤◌, Bool, true, false, not, cond, List, [], ◌∷◌, length, refl, ap, sym, ◌∙◌, arith, take, drop, ◌-◌, nat_lt}
use Rattle.std.proofs.Common.{◌==◌}
use Rattle.std.proofs.lemmas.Grind.{common_steps}
use Rattle.std.specs.List.{slice_split, position_or_len, before_first, after_first}
use Rattle.std.proofs.lemmas.List.Splits.{slice_split_first, length-slice_split}
use Rattle.std.proofs.lemmas.Bool.Decides.{nat_tests}
use Rattle.flat_text.specs.Pieces.{is_feed, lines_of, without_empty_end}

no_separator : (p : ℕ → Bool) (x : ℕ) (xs : List ℕ) (b : Bool) → length (x ∷ xs) ≤ cond (not b) (1 + position_or_len p xs) 0
    → (length xs ≤ position_or_len p xs) × (b ≡ false)
no_separator p x xs true h = absurd (omega arith)
no_separator p x xs false h = (omega arith, refl)

pub split_whole : (p : ℕ → Bool) (xs : List ℕ) → length xs ≤ position_or_len p xs → slice_split p xs ≡ xs ∷ []
split_whole p [] h = refl
split_whole p (x ∷ xs) h = let parts = no_separator p x xs (p x) h in rw (parts.1, split_whole p xs parts.0) refl

pub split_at : (p : ℕ → Bool) (xs : List ℕ) (end : ℕ) → end ≡ position_or_len p xs → end < length xs
    → slice_split p xs ≡ take end xs ∷ slice_split p (take (length xs - (end + 1)) (drop (end + 1) xs))
split_at p xs end is within =
    let all : take (length xs - (end + 1)) (drop (end + 1) xs) ≡ drop (end + 1) xs = grind (arith, common_steps) in
    rw (all, is) (slice_split_first p xs 0 (rw is at within))

-- the first line

onto_lines : (x : List ℕ) (parts : List (List ℕ)) → 0 < length parts → without_empty_end (x ∷ parts) ≡ x ∷ without_empty_end parts
onto_lines x [] h = absurd (omega arith)
onto_lines x (y ∷ more) h = refl

split_nonempty : (p : ℕ → Bool) (xs : List ℕ) → 0 < length (slice_split p xs)
split_nonempty p xs = omega (arith, length-slice_split p xs)

whole_line : (text : List ℕ) → 0 < length text → without_empty_end (text ∷ []) ≡ text ∷ []
whole_line text some = let test : (length text == 0) ≡ false = grind (arith, nat_tests) in rw test refl

lone_line : (text first rest : List ℕ) → first ≡ text → rest ≡ [] → first ∷ lines_of rest ≡ text ∷ []
lone_line text first rest all none = rw (all, none) refl

first_of : (b : Bool) (text : List ℕ) → nat_lt (position_or_len is_feed text) (length text) ≡ b → 0 < length text
    → lines_of text ≡ before_first is_feed text ∷ lines_of (after_first is_feed text)
first_of true text within some =
    let at : position_or_len is_feed text < length text = grind (arith, nat_tests) in
    ap without_empty_end (slice_split_first is_feed text 0 at) ∙ onto_lines (before_first is_feed text) _ (split_nonempty is_feed (after_first is_feed text))
first_of false text outside some =
    let past : length text ≤ position_or_len is_feed text = grind (arith, nat_tests) in
    let all : take (position_or_len is_feed text) text ≡ text = grind (arith, common_steps) in
    let none : drop (position_or_len is_feed text + 1) text ≡ [] = grind (arith, common_steps) in
    ap without_empty_end (split_whole is_feed text past) ∙ whole_line text some
    ∙ sym (lone_line text (take (position_or_len is_feed text) text) (drop (position_or_len is_feed text + 1) text) all none)

pub lines_first : (text : List ℕ) → 0 < length text → lines_of text ≡ before_first is_feed text ∷ lines_of (after_first is_feed text)
lines_first text some = first_of _ text refl some

pub lines_none : (text : List ℕ) → length text ≡ 0 → lines_of text ≡ []
lines_none [] none = refl
lines_none (x ∷ xs) none = absurd (omega arith)

pub first_and_rest : (text first rest : List ℕ) → 0 < length text → first ≡ before_first is_feed text → rest ≡ after_first is_feed text
    → lines_of text ≡ first ∷ lines_of rest
first_and_rest text first rest some front back = lines_first text some ∙ sym (rw (front, back) refl)
