-- The first line feed, and a text that is cut behind a line feed.
use Rattle.std.proofs.Common.{◌≡◌, ℕ, ◌+◌, ◌<◌, Bool, true, false, not, cond, List, [], ◌∷◌, ◌++◌, length, get_or, take, drop, Option, Some, None, unwrap_or}
use Rattle.std.proofs.Common.{refl, ap, sym, ◌∙◌, arith, append-nil, take-append-drop, length-drop, get_or-drop}
use Rattle.std.specs.List.{slice_split, onto_first, position_or_len}
use Rattle.std.proofs.lemmas.Bool.Decides.{nat_tests}
use Rattle.std.proofs.lemmas.Bool.{not_from_false, false_from_ne_true, not-false}
use Rattle.std.proofs.lemmas.List.{take_more, drop_more}
use Rattle.std.proofs.lemmas.List.Sums.{prefix_len_is, prefix_len_stops}
use Rattle.std.proofs.lemmas.List.Splits.{length-slice_split}
use Rattle.memchr.specs.Find.{IsFirstByte, is_byte}
use Rattle.flat_text.specs.Pieces.{is_feed, lines_of, without_empty_end}

-- where a byte is searched, the answer is the place of the first line feed

not_then : (b : Bool) → (b ≡ true → ⊥) → not b ≡ true
not_then b other = not_from_false b (false_from_ne_true b other)

pub feed_at : (text : List ℕ) (r : Option ℕ) → IsFirstByte (is_byte 10) text r → unwrap_or r (length text) ≡ position_or_len is_feed text
feed_at text None none = sym (prefix_len_is (λ b. not (is_feed b)) text (length text) 0 (omega arith)
    (λ k small. not_then (is_feed (get_or text k 0)) (none k (omega arith) small)) (λ wrong. absurd (omega arith)))
feed_at text (Some k) found =
    let within = found.0.high in
    sym (prefix_len_is (λ b. not (is_feed b)) text k 0 (omega arith) (λ j small. not_then (is_feed (get_or text j 0)) (found.0.before j (omega arith) small))
    (λ _. ap not found.1))

-- lines of two texts, of which the first ends with a line feed

onto_front : (x : ℕ) (parts more : List (List ℕ)) → 0 < length parts → onto_first x (parts ++ more) ≡ onto_first x parts ++ more
onto_front x [] more some = absurd (omega arith)
onto_front x (part ∷ parts) more some = refl

split_some : (text : List ℕ) → 0 < length (slice_split is_feed text)
split_some text = omega (arith, length-slice_split is_feed text)

split_step : (b : Bool) (x : ℕ) (parts more : List (List ℕ)) → 0 < length parts
    → cond b ([] ∷ (parts ++ more)) (onto_first x (parts ++ more)) ≡ cond b ([] ∷ parts) (onto_first x parts) ++ more
split_step true x parts more some = refl
split_step false x parts more some = onto_front x parts more some

split_feed : (front back : List ℕ) → slice_split is_feed (front ++ 10 ∷ back) ≡ slice_split is_feed front ++ slice_split is_feed back
split_feed [] back = refl
split_feed (x ∷ front) back =
    ap (λ parts. cond (is_feed x) ([] ∷ parts) (onto_first x parts)) (split_feed front back)
    ∙ split_step (is_feed x) x (slice_split is_feed front) (slice_split is_feed back) (split_some front)

end_behind : (parts more : List (List ℕ)) → 0 < length more → without_empty_end (parts ++ more) ≡ parts ++ without_empty_end more
end_behind [] more some = refl
end_behind (x ∷ []) [] some = absurd (omega arith)
end_behind (x ∷ []) (y ∷ more) some = refl
end_behind (x ∷ y ∷ parts) more some = ap (λ ps. x ∷ ps) (end_behind (y ∷ parts) more some)

lines_feed : (front back : List ℕ) → lines_of (front ++ 10 ∷ back) ≡ slice_split is_feed front ++ lines_of back
lines_feed front back = ap without_empty_end (split_feed front back) ∙ end_behind (slice_split is_feed front) (slice_split is_feed back) (split_some back)

pub lines_cut : (front back : List ℕ) → lines_of (front ++ 10 ∷ back) ≡ lines_of (front ++ 10 ∷ []) ++ lines_of back
lines_cut front back =
    lines_feed front back ∙ ap (λ ls. ls ++ lines_of back) (sym (append-nil (slice_split is_feed front)) ∙ sym (lines_feed front []))

-- a text that is cut behind the first line feed from a place on

not_false : (b : Bool) → not b ≡ false → b ≡ true
not_false b is = not-false b is

feed_is : (b : ℕ) → is_feed b ≡ true → b ≡ 10
feed_is b h = grind (arith, nat_tests)

feed_there : (text : List ℕ) (from p : ℕ) → p ≡ position_or_len is_feed (drop from text) → from + p < length text → get_or text (from + p) 0 ≡ 10
feed_there text from p is within =
    let rest : List ℕ = drop from text in
    let inside : position_or_len is_feed rest < length rest = omega (arith, length-drop from text) in
    let stops : not (is_feed (get_or rest (position_or_len is_feed rest) 0)) ≡ false = prefix_len_stops (λ b. not (is_feed b)) rest 0 inside in
    sym (get_or-drop from text p 0) ∙ ap (λ n. get_or rest n 0) is ∙ feed_is (get_or rest (position_or_len is_feed rest) 0) (not_false _ stops)

lines_at : (text : List ℕ) (e : ℕ) → e < length text → get_or text e 0 ≡ 10 → lines_of text ≡ lines_of (take (e + 1) text) ++ lines_of (drop (e + 1) text)
lines_at text e within feed =
    let front : take (e + 1) text ≡ take e text ++ 10 ∷ [] = take_more text e 0 within ∙ ap (λ b. take e text ++ b ∷ []) feed in
    let back : drop e text ≡ 10 ∷ drop (e + 1) text = drop_more text e 0 within ∙ ap (λ b. b ∷ drop (e + 1) text) feed in
    let whole : text ≡ take e text ++ 10 ∷ drop (e + 1) text = sym (take-append-drop e text) ∙ ap (λ ys. take e text ++ ys) back in
    ap lines_of whole ∙ lines_cut (take e text) (drop (e + 1) text) ∙ ap (λ f. lines_of f ++ lines_of (drop (e + 1) text)) (sym front)

pub lines_found : (text part front back : List ℕ) (from p : ℕ) → part ≡ drop from text → p ≡ position_or_len is_feed part → from + p < length text
    → front ≡ take (from + p + 1) text → back ≡ drop (from + p + 1) text → lines_of text ≡ lines_of front ++ lines_of back
lines_found text part front back from p cut is within before behind =
    lines_at text (from + p) within (feed_there text from p (is ∙ ap (position_or_len is_feed) cut) within)
    ∙ ap (λ f. lines_of f ++ lines_of (drop (from + p + 1) text)) (sym before) ∙ ap (λ b. lines_of front ++ lines_of b) (sym behind)
