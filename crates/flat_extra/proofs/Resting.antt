-- The lines of the rest.
use Rattle.std.proofs.Common.{ℕ, suc, ◌≤◌, ◌≡◌, ◌==◌, refl, sym, ap, ◌∙◌, Bool, true, false, not, ◌&&◌, ◌||◌, cond, List, [], ◌∷◌, ◌++◌, length, arith}
use Rattle.std.proofs.Common.{length-append}
use Rattle.std.specs.List.{list_any, slice_split, onto_first, join_with_byte}
use Rattle.std.proofs.lemmas.Bool.{and_parts, not-true, or_parts}
use Rattle.std.proofs.lemmas.Bool.Decides.{nat_tests}
use Rattle.std.proofs.lemmas.List.Splits.{join_with_byte-slice_split}
use Rattle.flat_text.specs.Pieces.{is_feed, without_empty_end, lines_of}
use Rattle.flat_extra.specs.declared.split.ExtraSet.{ExtraSet}
use Rattle.flat_extra.specs.Extra.{is_extra, is_run, rest_line, rest_lines}
use Rattle.flat_extra.specs.Laws.{RestHasItsLines, RestHasAsMany, RestIsNoLonger}

-- whether no piece has a line feed
abbrev no_feeds : List (List ℕ) → Bool
no_feeds [] = true
no_feeds (piece ∷ pieces) = not (list_any is_feed piece) && no_feeds pieces

-- ---- pieces joined and cut again

split-piece : (piece rest : List ℕ) → list_any is_feed piece ≡ false → slice_split is_feed (piece ++ 10 ∷ rest) ≡ piece ∷ slice_split is_feed rest
split-piece [] rest free = refl
split-piece (b ∷ piece) rest free =
    let both = or_parts (is_feed b) (list_any is_feed piece) free in
    let other : is_feed b ≡ false = both.0 in
    rw (other, split-piece piece rest both.1) refl

split-last : (piece : List ℕ) → list_any is_feed piece ≡ false → slice_split is_feed piece ≡ piece ∷ []
split-last [] free = refl
split-last (b ∷ piece) free =
    let both = or_parts (is_feed b) (list_any is_feed piece) free in
    let other : is_feed b ≡ false = both.0 in
    rw (other, split-last piece both.1) refl

split-join : (piece : List ℕ) (pieces : List (List ℕ)) → no_feeds (piece ∷ pieces) ≡ true
    → slice_split is_feed (join_with_byte 10 (piece ∷ pieces)) ≡ piece ∷ pieces
split-join piece [] free = split-last piece (not-true (list_any is_feed piece) (and_parts (not (list_any is_feed piece)) true free).0)
split-join piece (other ∷ pieces) free =
    let both = and_parts (not (list_any is_feed piece)) (no_feeds (other ∷ pieces)) free in
    split-piece piece (join_with_byte 10 (other ∷ pieces)) (not-true (list_any is_feed piece) both.0)
    ∙ ap (λ (ps : List (List ℕ)). piece ∷ ps) (split-join other pieces both.1)

-- ---- no line has a line feed

onto-free : (b : ℕ) (pieces : List (List ℕ)) → is_feed b ≡ false → no_feeds pieces ≡ true → no_feeds (onto_first b pieces) ≡ true
onto-free b [] other free = rw other refl
onto-free b (piece ∷ pieces) other free = rw other free

pieces-free : (text : List ℕ) → no_feeds (slice_split is_feed text) ≡ true
pieces-free [] = refl
pieces-free (b ∷ text) = by_test (is_feed b) refl (pieces-free text)
  where
    by_test : (c : Bool) → is_feed b ≡ c → no_feeds (slice_split is_feed text) ≡ true
        → no_feeds (cond c ([] ∷ slice_split is_feed text) (onto_first b (slice_split is_feed text))) ≡ true
    by_test true e free = free
    by_test false e free = onto-free b (slice_split is_feed text) e free

line-free : (extra : Bool) (line : List ℕ) → not (list_any is_feed line) ≡ true → not (list_any is_feed (rest_line extra line)) ≡ true
line-free true line free = refl
line-free false line free = free

rest-free : (set : ExtraSet) (begun : Bool) (lines : List (List ℕ)) → no_feeds lines ≡ true → no_feeds (rest_lines set begun lines) ≡ true
rest-free set begun [] free = refl
rest-free set begun (line ∷ lines) free =
    let both = and_parts (not (list_any is_feed line)) (no_feeds lines) free in
    rw (line-free (begun && is_extra set line) line both.0) (rest-free set (begun || is_run line) lines both.1)

-- ---- the last line

empty-rest : (set : ExtraSet) (begun : Bool) → rest_line (begun && is_extra set []) [] ≡ []
empty-rest set true = refl
empty-rest set false = refl

some-rest : (extra : Bool) (b : ℕ) (bytes : List ℕ) → (length (rest_line extra (b ∷ bytes)) == 0) ≡ false
some-rest true b bytes = refl
some-rest false b bytes = grind (arith, nat_tests)

some-line : (b : ℕ) (bytes : List ℕ) → (length (b ∷ bytes) == 0) ≡ false
some-line b bytes = grind (arith, nat_tests)

rest-end : (set : ExtraSet) (begun : Bool) (lines : List (List ℕ))
    → without_empty_end (rest_lines set begun lines) ≡ rest_lines set begun (without_empty_end lines)
rest-end set begun [] = refl
rest-end set begun ([] ∷ []) = rw (empty-rest set begun) refl
rest-end set begun ((b ∷ bytes) ∷ []) =
    let line : List ℕ = b ∷ bytes in
    let none : List (List ℕ) = [] in
    ap (λ (c : Bool). cond c none (rest_line (begun && is_extra set line) line ∷ none)) (some-rest (begun && is_extra set line) b bytes)
    ∙ sym (ap (λ (c : Bool). rest_lines set begun (cond c none (line ∷ none))) (some-line b bytes))
rest-end set begun (line ∷ other ∷ lines) =
    ap (λ (ls : List (List ℕ)). rest_line (begun && is_extra set line) line ∷ ls) (rest-end set (begun || is_run line) (other ∷ lines))

-- ---- the rest

joined : (set : ExtraSet) (lines : List (List ℕ)) → no_feeds lines ≡ true
    → without_empty_end (slice_split is_feed (join_with_byte 10 (rest_lines set false lines))) ≡ rest_lines set false (without_empty_end lines)
joined set [] free = refl
joined set (line ∷ lines) free =
    ap without_empty_end (split-join (rest_line (false && is_extra set line) line) (rest_lines set (false || is_run line) lines)
    (rest-free set false (line ∷ lines) free)) ∙ rest-end set false (line ∷ lines)

pub rest-has-its-lines : RestHasItsLines
rest-has-its-lines set text = joined set (slice_split is_feed text) (pieces-free text)

as-many : (set : ExtraSet) (begun : Bool) (lines : List (List ℕ)) → length (rest_lines set begun lines) ≡ length lines
as-many set begun [] = refl
as-many set begun (line ∷ lines) = ap suc (as-many set (begun || is_run line) lines)

pub rest-has-as-many : RestHasAsMany
rest-has-as-many set text = ap length (rest-has-its-lines set text) ∙ as-many set false (lines_of text)

-- ---- how long the rest is

length-rest : (set : ExtraSet) (begun : Bool) (line : List ℕ) → length (rest_line (begun && is_extra set line) line) ≤ length line
length-rest set begun [] = let e = ap length (empty-rest set begun) in omega (arith, e)
length-rest set begun (b ∷ bytes) = by_extra (begun && is_extra set (b ∷ bytes))
  where
    by_extra : (extra : Bool) → length (rest_line extra (b ∷ bytes)) ≤ length (b ∷ bytes)
    by_extra true = omega arith
    by_extra false = omega arith

length-joined : (set : ExtraSet) (begun : Bool) (lines : List (List ℕ))
    → length (join_with_byte 10 (rest_lines set begun lines)) ≤ length (join_with_byte 10 lines)
length-joined set begun [] = omega arith
length-joined set begun (line ∷ []) = length-rest set begun line
length-joined set begun (line ∷ other ∷ lines) =
    let first = length-rest set begun line in
    let later = length-joined set (begun || is_run line) (other ∷ lines) in
    omega (
      arith,
      length-append (rest_line (begun && is_extra set line) line) (10 ∷ join_with_byte 10 (rest_lines set (begun || is_run line) (other ∷ lines))),
      length-append line (10 ∷ join_with_byte 10 (other ∷ lines)),
      first,
      later,
    )

pub rest-is-no-longer : RestIsNoLonger
rest-is-no-longer set text = omega (arith, length-joined set false (slice_split is_feed text), ap length (join_with_byte-slice_split 10 text))
