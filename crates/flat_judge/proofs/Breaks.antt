-- Lines that are written are read back, and so are their words.
use Rattle.std.proofs.Common.{◌≡◌, ℕ, ◌<◌, ◌||◌, ◌==◌, nat_lt, Bool, true, false, List, [], ◌∷◌, ◌++◌, length, map, append_assoc, refl, sym, ap, ◌∙◌}
use Rattle.std.proofs.Common.{arith}
use Rattle.std.specs.List.{list_all, list_any, onto_first, slice_split}
use Rattle.std.proofs.lemmas.Bool.{and_parts}
use Rattle.std.proofs.lemmas.Bool.Decides.{nat_tests}
use Rattle.std.proofs.lemmas.List.Splits.{slice_split-cons_yes, slice_split-cons_no, length-slice_split}
use Rattle.flat_text.specs.Pieces.{is_feed, is_space, lines_of, without_empty_end, words_of}
use Rattle.flat_page.specs.Words.{line_of, spaced, text_of}
use Rattle.flat_places.specs.Forms.{Word}
use Rattle.flat_report.proofs.lemmas.Sheets.{is_word}

-- ---- cut behind a separator

some-piece : (p : ℕ → Bool) (text : List ℕ) → 0 < length (slice_split p text)
some-piece p text = omega (arith, length-slice_split p text)

onto-append : (x : ℕ) (xs ys : List (List ℕ)) → 0 < length xs → onto_first x (xs ++ ys) ≡ onto_first x xs ++ ys
onto-append x [] ys some = absurd (omega (arith, some))
onto-append x (piece ∷ xs) ys some = refl

-- the pieces before a separator, and those behind it
pub split-behind : (p : ℕ → Bool) (c : ℕ) (before later : List ℕ) → p c ≡ true
    → slice_split p (before ++ c ∷ later) ≡ slice_split p before ++ slice_split p later
split-behind p c [] later cuts = slice_split-cons_yes p c later cuts
split-behind p c (x ∷ before) later cuts = by (p x) refl (split-behind p c before later cuts)
  where
    by : (b : Bool) → p x ≡ b → slice_split p (before ++ c ∷ later) ≡ slice_split p before ++ slice_split p later
        → slice_split p (x ∷ (before ++ c ∷ later)) ≡ slice_split p (x ∷ before) ++ slice_split p later
    by true is rest = slice_split-cons_yes p x (before ++ c ∷ later) is ∙ ap (λ (ps : List (List ℕ)). [] ∷ ps) rest
        ∙ sym (ap (λ (ps : List (List ℕ)). ps ++ slice_split p later) (slice_split-cons_yes p x before is))
    by false is rest =
        slice_split-cons_no p x (before ++ c ∷ later) is ∙ ap (onto_first x) rest
        ∙ onto-append x (slice_split p before) (slice_split p later) (some-piece p before)
        ∙ sym (ap (λ (ps : List (List ℕ)). ps ++ slice_split p later) (slice_split-cons_no p x before is))

-- a piece without a separator is the only one
pub split-none : (p : ℕ → Bool) (piece : List ℕ) → list_any p piece ≡ false → slice_split p piece ≡ piece ∷ []
split-none p [] none = refl
split-none p (x ∷ piece) none = by (p x) refl none (split-none p piece)
  where
    by : (b : Bool) → p x ≡ b → (b || list_any p piece) ≡ false → (list_any p piece ≡ false → slice_split p piece ≡ piece ∷ [])
        → slice_split p (x ∷ piece) ≡ (x ∷ piece) ∷ []
    by true is none rest = absurd (let wrong : true ≡ false = none in cc)
    by false is none rest = slice_split-cons_no p x piece is ∙ ap (onto_first x) (rest none)

-- ---- lines

end-append : (xs ys : List (List ℕ)) → 0 < length ys → without_empty_end (xs ++ ys) ≡ xs ++ without_empty_end ys
end-append [] ys some = refl
end-append (x ∷ []) [] some = absurd (omega (arith, some))
end-append (x ∷ []) (y ∷ ys) some = refl
end-append (x ∷ x' ∷ xs) ys some = ap (λ (ls : List (List ℕ)). x ∷ ls) (end-append (x' ∷ xs) ys some)

-- what stands behind a feed has lines of its own
pub lines-behind : (before later : List ℕ) → lines_of (before ++ 10 ∷ later) ≡ slice_split is_feed before ++ lines_of later
lines-behind before later = ap without_empty_end (split-behind is_feed 10 before later refl)
    ∙ end-append (slice_split is_feed before) (slice_split is_feed later) (some-piece is_feed later)

-- so the lines behind a text of lines come behind those of the text
abbrev pub EndsLines : List ℕ → Type 0
EndsLines before = (later : List ℕ) → lines_of (before ++ later) ≡ lines_of before ++ lines_of later

pub text-ends : (lines : List (List Word)) → EndsLines (text_of lines)
text-ends [] later = refl
text-ends (words ∷ lines) later =
    let first : (rest : List ℕ) → lines_of ((line_of words ++ 10 ∷ []) ++ rest) ≡ slice_split is_feed (line_of words) ++ lines_of rest =
    λ rest. ap lines_of (append_assoc (line_of words) (10 ∷ []) rest) ∙ lines-behind (line_of words) rest in
    ap lines_of (append_assoc (line_of words ++ 10 ∷ []) (text_of lines) later)
    ∙ first (text_of lines ++ later)
    ∙ ap (λ (ls : List (List ℕ)). slice_split is_feed (line_of words) ++ ls) (text-ends lines later)
    ∙ sym (append_assoc (slice_split is_feed (line_of words)) (lines_of (text_of lines)) (lines_of later))
    ∙ ap (λ (ls : List (List ℕ)). ls ++ lines_of later) (sym (first (text_of lines)))

-- ---- words

no-space : (w : Word) → is_word w ≡ true → list_any is_space w ≡ false
no-space [] fine = refl
no-space (b ∷ w) fine =
    let parts = and_parts (nat_lt 32 b) (is_word w) fine in
    let first = parts.0 in
    let other : (b == 32) ≡ false = grind (arith, nat_tests) in
    rw other (no-space w parts.1)

-- the words of a line are its words
pub words-back : (w : Word) (ws : List Word) → list_all is_word (w ∷ ws) ≡ true → words_of (line_of (w ∷ ws)) ≡ w ∷ ws
words-back w [] fine =
    let first = (and_parts (is_word w) true fine).0 in
    ap words_of (no-more w) ∙ split-none is_space w (no-space w first)
  where
    no-more : (w : Word) → w ++ [] ≡ w
    no-more [] = refl
    no-more (b ∷ w) = ap (λ (t : List ℕ). b ∷ t) (no-more w)
words-back w (v ∷ ws) fine =
    let parts = and_parts (is_word w) (list_all is_word (v ∷ ws)) fine in
    split-behind is_space 32 w (v ++ spaced ws) refl
    ∙ ap (λ (ps : List (List ℕ)). ps ++ words_of (v ++ spaced ws)) (split-none is_space w (no-space w parts.0))
    ∙ ap (λ (ps : List (List ℕ)). w ∷ ps) (words-back v ws parts.1)

no-feed : (w : Word) → is_word w ≡ true → (rest : List ℕ) → list_any is_feed rest ≡ false → list_any is_feed (w ++ rest) ≡ false
no-feed [] fine rest none = none
no-feed (b ∷ w) fine rest none =
    let parts = and_parts (nat_lt 32 b) (is_word w) fine in
    let first = parts.0 in
    let other : (b == 10) ≡ false = grind (arith, nat_tests) in
    rw other (no-feed w parts.1 rest none)

spaced-no-feed : (ws : List Word) → list_all is_word ws ≡ true → list_any is_feed (spaced ws) ≡ false
spaced-no-feed [] fine = refl
spaced-no-feed (w ∷ ws) fine =
    let parts = and_parts (is_word w) (list_all is_word ws) fine in
    no-feed w parts.0 (spaced ws) (spaced-no-feed ws parts.1)

line-no-feed : (ws : List Word) → list_all is_word ws ≡ true → list_any is_feed (line_of ws) ≡ false
line-no-feed [] fine = refl
line-no-feed (w ∷ ws) fine =
    let parts = and_parts (is_word w) (list_all is_word ws) fine in
    no-feed w parts.0 (spaced ws) (spaced-no-feed ws parts.1)

-- the lines of a text of lines are its lines
pub lines-back : (lines : List (List Word)) → list_all (list_all is_word) lines ≡ true → lines_of (text_of lines) ≡ map line_of lines
lines-back [] fine = refl
lines-back (words ∷ lines) fine =
    let parts = and_parts (list_all is_word words) (list_all (list_all is_word) lines) fine in
    ap lines_of (append_assoc (line_of words) (10 ∷ []) (text_of lines))
    ∙ lines-behind (line_of words) (text_of lines)
    ∙ ap (λ (ps : List (List ℕ)). ps ++ lines_of (text_of lines)) (split-none is_feed (line_of words) (line-no-feed words parts.0))
    ∙ ap (λ (ps : List (List ℕ)). line_of words ∷ ps) (lines-back lines parts.1)
