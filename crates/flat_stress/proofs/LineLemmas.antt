-- Lines of words: how they stand in a text, and which of them a script may have.
use Rattle.std.proofs.Common.{◌≡◌, ℕ, ◌*◌, ◌^◌, ◌<◌, ◌≤◌, ◌==◌, ◌&&◌, ◌||◌, Bool, true, false, nat_lt, nat_le, List, [], ◌∷◌, ◌++◌, length, get_or, map, refl}
use Rattle.std.proofs.Common.{◌∙◌, ap, arith, append-nil, append_assoc, length-append, lit<, lit≤}
use Rattle.std.specs.Prelude.{All}
use Rattle.std.specs.List.{list_all, slice_split}
use Rattle.std.specs.Char.{is_ascii_digit}
use Rattle.std.specs.Str.{all_ascii_digits}
use Rattle.std.specs.Fmt.{decimal}
use Rattle.std.proofs.lemmas.Bool.{and_parts, and_from}
use Rattle.std.proofs.lemmas.Bool.Decides.{nat_tests}
use Rattle.std.proofs.lemmas.Fmt.{decimal_is_IsNumeral_wide, length-decimal-le_wide}
use Rattle.std.proofs.lemmas.List.Folds.{list_all-append}
use Rattle.std.proofs.lemmas.List.Splits.{slice_split_at, slice_split_none}
use Rattle.std.proofs.lemmas.List.Sums.{AllPass-from_list_all}
use Rattle.std.proofs.lemmas.Str.Parse.{tells_all_ascii_digits, numerals_by_value}
use Rattle.flat_text.specs.Pieces.{is_feed, is_space, words_of, lines_of, without_empty_end}
use Rattle.flat_script.specs.Grammar.{is_plain, is_skipped}
use Rattle.flat_print.proofs.lemmas.TextLemmas.{IsLine, AllLines}
use Rattle.flat_stress.specs.Words.{line_text}
use Rattle.flat_page.specs.Words.{text_of, line_of, spaced}
use Rattle.flat_places.specs.Forms.{Word}

-- lines that are each ended by a line feed

line_ended : (ws : List Word) (t : List ℕ) → line_text ws ++ t ≡ line_of ws ++ 10 ∷ t
line_ended [] t = refl
line_ended (w ∷ ws) t = append_assoc (w ++ spaced ws) (10 ∷ []) t

no_feed : (b : ℕ) → is_plain b ≡ true → is_feed b ≡ false
no_feed b h = let low = (and_parts (nat_le 32 b) (nat_le b 126) h).0 in grind (arith, nat_tests)

no_feeds : (l : List ℕ) → list_all is_plain l ≡ true → All (λ b. is_feed b ≡ false) l
no_feeds l plain = λ k d within. no_feed (get_or l k d) (AllPass-from_list_all is_plain l plain k d within)

split_lines : (wss : List (List Word)) → AllLines wss → slice_split is_feed (text_of wss) ≡ map line_of wss ++ [] ∷ []
split_lines [] good = refl
split_lines (ws ∷ wss) good =
    ap (slice_split is_feed) (line_ended ws (text_of wss)) ∙ slice_split_at is_feed (line_of ws) 10 (text_of wss) (no_feeds (line_of ws) good.0.plain) refl
    ∙ ap (λ t. line_of ws ∷ t) (split_lines wss good.1)

full_lines : (ls : List (List ℕ)) → without_empty_end (ls ++ [] ∷ []) ≡ ls
full_lines [] = refl
full_lines (x ∷ []) = refl
full_lines (x ∷ y ∷ ls) = ap (λ t. x ∷ t) (full_lines (y ∷ ls))

-- the lines of such a text are those that it was made of
pub lines_of_text : (wss : List (List Word)) → AllLines wss → lines_of (text_of wss) ≡ map line_of wss
lines_of_text wss good = ap without_empty_end (split_lines wss good) ∙ full_lines (map line_of wss)

not_long : (l : List ℕ) → nat_lt 1024 (length l) ≡ false → length l ≤ 1024
not_long l short = grind (arith, nat_tests)

-- how long the text is at most
pub text_fits : (wss : List (List Word)) → AllLines wss → length (text_of wss) ≤ 1025 * length wss
text_fits [] good = omega arith
text_fits (ws ∷ wss) good =
    let long = ap length (line_ended ws (text_of wss)) in
    omega (arith, long, length-append (line_of ws) (10 ∷ text_of wss), not_long (line_of ws) good.0.short, text_fits wss good.1)

-- words

-- a byte of a word
abbrev pub is_solid : ℕ → Bool
is_solid b = nat_le 33 b && nat_le b 126

-- a word that a line may have
pub record IsSolid (w : Word) : Type 0 where
  pub solid : list_all is_solid w ≡ true
  pub short : length w ≤ 32

abbrev pub AllSolid : List Word → Type 0
AllSolid [] = Unit {0}
AllSolid (w ∷ ws) = IsSolid w × AllSolid ws

no_space : (b : ℕ) → is_solid b ≡ true → is_space b ≡ false
no_space b h = let low = (and_parts (nat_le 33 b) (nat_le b 126) h).0 in grind (arith, nat_tests)

no_spaces : (w : Word) → list_all is_solid w ≡ true → All (λ b. is_space b ≡ false) w
no_spaces w solid = λ k d within. no_space (get_or w k d) (AllPass-from_list_all is_solid w solid k d within)

words_are : (w : Word) (ws : List Word) → IsSolid w → AllSolid ws → words_of (line_of (w ∷ ws)) ≡ w ∷ ws
words_are w [] first rest = ap words_of (append-nil w) ∙ slice_split_none is_space w (no_spaces w first.solid)
words_are w (v ∷ ws) first rest = slice_split_at is_space w 32 (line_of (v ∷ ws)) (no_spaces w first.solid) refl
    ∙ ap (λ t. w ∷ t) (words_are v ws rest.0 rest.1)

plain_byte : (b : ℕ) → is_solid b ≡ true → is_plain b ≡ true
plain_byte b h = let parts = and_parts (nat_le 33 b) (nat_le b 126) h in and_from (nat_le 32 b) (nat_le b 126) (lower b parts.0) parts.1
  where
    lower : (b : ℕ) → nat_le 33 b ≡ true → nat_le 32 b ≡ true
    lower b low = grind (arith, nat_tests)

plain_word : (w : Word) → list_all is_solid w ≡ true → list_all is_plain w ≡ true
plain_word [] h = refl
plain_word (b ∷ w) h = let parts = and_parts (is_solid b) (list_all is_solid w) h in
    and_from (is_plain b) (list_all is_plain w) (plain_byte b parts.0) (plain_word w parts.1)

plain_words : (ws : List Word) → AllSolid ws → list_all is_plain (spaced ws) ≡ true
plain_words [] all = refl
plain_words (w ∷ ws) all = list_all-append is_plain w (spaced ws)
    ∙ and_from (list_all is_plain w) (list_all is_plain (spaced ws)) (plain_word w all.0.solid) (plain_words ws all.1)

short_words : (ws : List Word) → AllSolid ws → length (spaced ws) ≤ 33 * length ws
short_words [] all = omega arith
short_words (w ∷ ws) all = omega (arith, length-append w (spaced ws), all.0.short, short_words ws all.1)

not_skipped : (c : ℕ) (cs : List ℕ) → (c == 35) ≡ false → is_skipped (c ∷ cs) ≡ false
not_skipped c cs other = ap (λ b. b || (c == 35)) some ∙ other
  where
    some : (length (c ∷ cs) == 0) ≡ false
    some = grind (arith, nat_tests)

-- few words, the first of which begins with no `#`, are a line
pub line_good : (c : ℕ) (cs : Word) (ws : List Word) → (c == 35) ≡ false → IsSolid (c ∷ cs) → AllSolid ws → length ws ≤ 24 → IsLine ((c ∷ cs) ∷ ws)
line_good c cs ws other first rest few =
    let w : Word = c ∷ cs in
    record {
      plain = list_all-append is_plain w (spaced ws) ∙ and_from (list_all is_plain w) (list_all is_plain (spaced ws)) (plain_word w first.solid)
          (plain_words ws rest);
      short = below (length (line_of (w ∷ ws))) (omega (arith, length-append w (spaced ws), first.short, short_words ws rest));
      kept = not_skipped c (cs ++ spaced ws) other;
      words = words_are w ws first rest;
    }
  where
    below : (n : ℕ) → n ≤ 1024 → nat_lt 1024 n ≡ false
    below n fits = grind (arith, nat_tests)

-- a word that is tested as it stands
pub tested : (w : Word) → list_all is_solid w ≡ true → nat_le (length w) 32 ≡ true → IsSolid w
tested w solid short = record { solid = solid; short = grind (arith, nat_tests) }

-- numbers and names

digit_solid : (b : ℕ) → is_ascii_digit b ≡ true → is_solid b ≡ true
digit_solid b h = let parts = and_parts (nat_le 48 b) (nat_le b 57) h in and_from (nat_le 33 b) (nat_le b 126) (lower b parts.0) (higher b parts.1)
  where
    lower : (b : ℕ) → nat_le 48 b ≡ true → nat_le 33 b ≡ true
    lower b low = grind (arith, nat_tests)

    higher : (b : ℕ) → nat_le b 57 ≡ true → nat_le b 126 ≡ true
    higher b high = grind (arith, nat_tests)

digits_solid : (w : Word) → all_ascii_digits w ≡ true → list_all is_solid w ≡ true
digits_solid [] h = refl
digits_solid (b ∷ w) h = let parts = and_parts (is_ascii_digit b) (all_ascii_digits w) h in
    and_from (is_solid b) (list_all is_solid w) (digit_solid b parts.0) (digits_solid w parts.1)

decimal_solid : (n : ℕ) → n < 10 ^ 20 → list_all is_solid (decimal n) ≡ true
decimal_solid n small =
    let wide : n < 10 ^ 64 = omega (arith, lit≤ {m = 10 ^ 20} {n = 10 ^ 64} tt) in
    let own = numerals_by_value (λ ds. all_ascii_digits ds ≡ true) tells_all_ascii_digits in
    digits_solid (decimal n) (own.from (decimal n) (decimal_is_IsNumeral_wide n wide).0.1)

decimal_short : (n : ℕ) → n < 10 ^ 20 → length (decimal n) ≤ 20
decimal_short n small =
    let wide : n < 10 ^ 64 = omega (arith, lit≤ {m = 10 ^ 20} {n = 10 ^ 64} tt) in
    length-decimal-le_wide 20 n (lit< tt) small wide

pub number_solid : (n : ℕ) → n < 10 ^ 20 → IsSolid (decimal n)
number_solid n small = record { solid = decimal_solid n small; short = omega (arith, decimal_short n small) }

-- a letter and a number
pub named_solid : (c n : ℕ) → is_solid c ≡ true → n < 10 ^ 20 → IsSolid (c ∷ decimal n)
named_solid c n letter small = record {
  solid = and_from (is_solid c) (list_all is_solid (decimal n)) letter (decimal_solid n small);
  short = omega (arith, decimal_short n small);
}
