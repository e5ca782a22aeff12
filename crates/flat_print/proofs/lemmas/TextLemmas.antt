-- Lines and words of a canonical text.
use Rattle.std.proofs.Common.{zero, suc, get_or, ◌≡◌, ℕ, ◌+◌, ◌<◌, ◌≤◌, ◌==◌, ◌||◌, cond, Bool, true, false, nat_lt, nat_le, List, [], ◌∷◌, ◌++◌, length, map}
use Rattle.std.proofs.Common.{refl, sym, ◌∙◌, ap, arith, append-nil, append_assoc, length-append}
use Rattle.std.specs.Prelude.{All}
use Rattle.std.specs.List.{list_all, slice_split, onto_first, join_with_byte}
use Rattle.std.proofs.lemmas.List.Splits.{length-slice_split, join_with_byte-slice_split, slice_split_at, slice_split_none}
use Rattle.std.proofs.lemmas.List.Folds.{list_all-append}
use Rattle.std.proofs.lemmas.Bool.Decides.{nat_tests}
use Rattle.flat_text.specs.Pieces.{is_feed, is_space, words_of, lines_of, without_empty_end}
use Rattle.flat_places.specs.Forms.{Word}
use Rattle.flat_script.specs.Grammar.{is_plain, is_skipped}
use Rattle.flat_print.specs.Print.{fed}
use Rattle.flat_page.specs.Words.{line_of, spaced}
use Rattle.std.proofs.lemmas.Bool.{and_parts}
use Rattle.flat_page.proofs.lemmas.PageLemmas.{spaced-append}

spelled-join : (ws : List Word) → line_of ws ≡ join_with_byte 32 ws
spelled-join [] = refl
spelled-join (w ∷ []) = append-nil w
spelled-join (w ∷ v ∷ ws) = ap (λ t. w ++ (32 ∷ t)) (spelled-join (v ∷ ws))

pub spelled-words_of : (line : List ℕ) → line_of (words_of line) ≡ line
spelled-words_of line = spelled-join (words_of line) ∙ join_with_byte-slice_split 32 line

-- words that are read as a line's words, where a line is read
pub record IsLine (ws : List Word) : Type 0 where
  pub plain : list_all is_plain (line_of ws) ≡ true
  pub short : nat_lt 1024 (length (line_of ws)) ≡ false
  pub kept : is_skipped (line_of ws) ≡ false
  pub words : words_of (line_of ws) ≡ ws

pub line_words_of : (line : List ℕ) → list_all is_plain line ≡ true → nat_lt 1024 (length line) ≡ false → is_skipped line ≡ false → IsLine (words_of line)
line_words_of line plain short kept =
    let same = spelled-words_of line in
    record {
      plain = ap (list_all is_plain) same ∙ plain;
      short = ap (λ t. nat_lt 1024 (length t)) same ∙ short;
      kept = ap is_skipped same ∙ kept;
      words = ap words_of same;
    }

-- the front words of a line

-- a first piece has no space, and the pieces behind it are those of what stands behind its space
cut : (w t : List ℕ) (rest : List Word) → words_of (w ++ 32 ∷ t) ≡ w ∷ rest → (words_of w ≡ w ∷ []) × (words_of t ≡ rest)
cut [] t rest is = (refl, let e : [] ∷ words_of t ≡ [] ∷ rest = is in cc)
cut (x ∷ w) t rest is = by_test (is_space x) refl is (λ given. cut w t rest given)
  where
    by_test : (b : Bool) → is_space x ≡ b → cond b ([] ∷ words_of (w ++ 32 ∷ t)) (onto_first x (words_of (w ++ 32 ∷ t))) ≡ (x ∷ w) ∷ rest
        → (words_of (w ++ 32 ∷ t) ≡ w ∷ rest → (words_of w ≡ w ∷ []) × (words_of t ≡ rest))
        → (words_of (x ∷ w) ≡ (x ∷ w) ∷ []) × (words_of t ≡ rest)
    by_test true at wrong later = absurd (cc)
    by_test false at same later =
        let both = later (less_one (words_of (w ++ 32 ∷ t)) (omega (arith, length-slice_split is_space (w ++ 32 ∷ t))) same) in
        (ap (λ b. cond b ([] ∷ words_of w) (onto_first x (words_of w))) at ∙ ap (onto_first x) both.0, both.1)
      where
        less_one : (parts : List Word) → 0 < length parts → onto_first x parts ≡ (x ∷ w) ∷ rest → parts ≡ w ∷ rest
        less_one [] some e = absurd (omega arith)
        less_one (p ∷ ps) some e = cc

onto_append : (x : ℕ) (xs ys : List Word) → 0 < length xs → onto_first x (xs ++ ys) ≡ onto_first x xs ++ ys
onto_append x [] ys some = absurd (omega arith)
onto_append x (p ∷ ps) ys some = refl

words_join : (w t : List ℕ) → words_of (w ++ 32 ∷ t) ≡ words_of w ++ words_of t
words_join [] t = refl
words_join (x ∷ w) t = by_test (is_space x) (words_join w t)
  where
    by_test : (b : Bool) → words_of (w ++ 32 ∷ t) ≡ words_of w ++ words_of t
        → cond b ([] ∷ words_of (w ++ 32 ∷ t)) (onto_first x (words_of (w ++ 32 ∷ t))) ≡ cond b ([] ∷ words_of w) (onto_first x (words_of w)) ++ words_of t
    by_test true rest = ap (λ ps. [] ∷ ps) rest
    by_test false rest = ap (onto_first x) rest ∙ onto_append x (words_of w) (words_of t) (omega (arith, length-slice_split is_space w))

front_words_of : (w : Word) (more behind : List Word) → words_of (line_of (w ∷ more ++ behind)) ≡ w ∷ more ++ behind → words_of (line_of (w ∷ more)) ≡ w ∷ more
front_words_of w [] [] is = is
front_words_of w [] (b ∷ bs) is = ap words_of (append-nil w) ∙ (cut w (line_of (b ∷ bs)) (b ∷ bs) is).0
front_words_of w (v ∷ more) behind is =
    let both = cut w (line_of (v ∷ more ++ behind)) (v ∷ more ++ behind) is in
    words_join w (line_of (v ∷ more)) ∙ ap (λ ps. ps ++ words_of (line_of (v ∷ more))) both.0 ∙ ap (λ ps. w ∷ ps) (front_words_of v more behind both.1)

spelled-append : (w : Word) (more behind : List Word) → line_of (w ∷ more ++ behind) ≡ line_of (w ∷ more) ++ spaced behind
spelled-append w more behind = ap (λ t. w ++ t) (spaced-append more behind) ∙ sym (append_assoc w (spaced more) (spaced behind))

plain_front : (xs ys : List ℕ) → list_all is_plain (xs ++ ys) ≡ true → list_all is_plain xs ≡ true
plain_front xs ys plain = (and_parts (list_all is_plain xs) (list_all is_plain ys) (sym (list_all-append is_plain xs ys) ∙ plain)).0

short_front : (xs ys : List ℕ) → nat_lt 1024 (length (xs ++ ys)) ≡ false → nat_lt 1024 (length xs) ≡ false
short_front xs ys short = let long = length-append xs ys in grind (arith, nat_tests)

skipped_first : (x : ℕ) (xs : List ℕ) → is_skipped (x ∷ xs) ≡ (x == 35)
skipped_first x xs = ap (λ b. b || (x == 35)) some
  where
    some : (length (x ∷ xs) == 0) ≡ false
    some = grind (arith, nat_tests)

kept_front : (xs ys : List ℕ) → 0 < length xs → is_skipped (xs ++ ys) ≡ false → is_skipped xs ≡ false
kept_front [] ys some kept = absurd (omega arith)
kept_front (x ∷ xs) ys some kept = skipped_first x xs ∙ sym (skipped_first x (xs ++ ys)) ∙ kept

-- two words or more at the front of a line are a line, and no longer
pub line_front : (w v : Word) (more behind : List Word) → IsLine (w ∷ v ∷ more ++ behind) → IsLine (w ∷ v ∷ more)
line_front w v more behind line =
    let same = spelled-append w (v ∷ more) behind in
    let xs = line_of (w ∷ v ∷ more) in
    record {
      plain = plain_front xs (spaced behind) (ap (list_all is_plain) (sym same) ∙ line.plain);
      short = short_front xs (spaced behind) (ap (λ t. nat_lt 1024 (length t)) (sym same) ∙ line.short);
      kept = kept_front xs (spaced behind) (omega (arith, length-append w (spaced (v ∷ more)))) (ap is_skipped (sym same) ∙ line.kept);
      words = front_words_of w (v ∷ more) behind line.words;
    }

pub front_fits : (w : Word) (more behind : List Word) → length (line_of (w ∷ more)) ≤ length (line_of (w ∷ more ++ behind))
front_fits w more behind = let same = ap length (spelled-append w more behind) in omega (arith, length-append (line_of (w ∷ more)) (spaced behind))

-- lines

abbrev pub AllLines : List (List Word) → Type 0
AllLines [] = Unit {0}
AllLines (ws ∷ wss) = IsLine ws × AllLines wss

pub AllLines-append : (xs ys : List (List Word)) → AllLines xs → AllLines ys → AllLines (xs ++ ys)
AllLines-append [] ys a b = b
AllLines-append (x ∷ xs) ys a b = (a.0, AllLines-append xs ys a.1 b)

no_feed : (b : ℕ) → is_plain b ≡ true → is_feed b ≡ false
no_feed b h = let parts = and_parts (nat_le 32 b) (nat_le b 126) h in let low = parts.0 in grind (arith, nat_tests)

no_feed_at : (xs : List ℕ) → list_all is_plain xs ≡ true → (k d : ℕ) → k < length xs → is_feed (get_or xs k d) ≡ false
no_feed_at [] h k d within = absurd (omega arith)
no_feed_at (x ∷ xs) h zero d within = no_feed x (and_parts (is_plain x) (list_all is_plain xs) h).0
no_feed_at (x ∷ xs) h (suc k) d within = no_feed_at xs (and_parts (is_plain x) (list_all is_plain xs) h).1 k d (omega arith)

no_feeds : (xs : List ℕ) → list_all is_plain xs ≡ true → All (λ x. is_feed x ≡ false) xs
no_feeds xs h = λ k d within. no_feed_at xs h k d (omega arith)

split_fed : (l : List ℕ) (wss : List (List Word)) → list_all is_plain l ≡ true → AllLines wss → slice_split is_feed (l ++ fed wss) ≡ l ∷ map line_of wss
split_fed l [] plain good = ap (slice_split is_feed) (append-nil l) ∙ slice_split_none is_feed l (no_feeds l plain)
split_fed l (ws ∷ wss) plain good = slice_split_at is_feed l 10 (line_of ws ++ fed wss) (no_feeds l plain) refl
    ∙ ap (λ t. l ∷ t) (split_fed (line_of ws) wss good.0.plain good.1)

pub skipped_none : (l : List ℕ) → is_skipped l ≡ false → (length l == 0) ≡ false
skipped_none [] h = absurd (cc)
skipped_none (x ∷ xs) h = grind (arith, nat_tests)

full_end : (l : List ℕ) (wss : List (List Word)) → (length l == 0) ≡ false → AllLines wss → without_empty_end (l ∷ map line_of wss) ≡ l ∷ map line_of wss
full_end l [] some good = rw some refl
full_end l (ws ∷ wss) some good = ap (λ t. l ∷ t) (full_end (line_of ws) wss (skipped_none (line_of ws) good.0.kept) good.1)

-- the lines of a text that was written line by line
pub lines_of_fed : (l : List ℕ) (wss : List (List Word)) → list_all is_plain l ≡ true → (length l == 0) ≡ false → AllLines wss
    → lines_of (l ++ fed wss) ≡ l ∷ map line_of wss
lines_of_fed l wss plain some good = ap without_empty_end (split_fed l wss plain good) ∙ full_end l wss some good

-- how long lines are, each with a line feed

abbrev pub room_of : List (List Word) → ℕ
room_of [] = 0
room_of (ws ∷ wss) = 1 + length (line_of ws) + room_of wss

pub length-fed : (wss : List (List Word)) → length (fed wss) ≡ room_of wss
length-fed [] = refl
length-fed (ws ∷ wss) = omega (arith, length-append (line_of ws) (fed wss), length-fed wss)

pub room_of-append : (xs ys : List (List Word)) → room_of (xs ++ ys) ≡ room_of xs + room_of ys
room_of-append [] ys = omega arith
room_of-append (x ∷ xs) ys = omega (arith, room_of-append xs ys)

abbrev pub lines_room : List (List ℕ) → ℕ
lines_room [] = 0
lines_room (l ∷ ls) = 1 + length l + lines_room ls

onto_room : (x : ℕ) (parts : List (List ℕ)) → 0 < length parts → lines_room (onto_first x parts) ≡ 1 + lines_room parts
onto_room x [] some = absurd (omega arith)
onto_room x (l ∷ ls) some = omega arith

pub some_parts : (p : ℕ → Bool) (xs : List ℕ) → 0 < length (slice_split p xs)
some_parts p xs = omega (arith, length-slice_split p xs)

pub split_room : (p : ℕ → Bool) (xs : List ℕ) → lines_room (slice_split p xs) ≡ length xs + 1
split_room p [] = refl
split_room p (x ∷ xs) = by_test (p x) (split_room p xs) (some_parts p xs)
  where
    by_test : (b : Bool) → lines_room (slice_split p xs) ≡ length xs + 1 → 0 < length (slice_split p xs)
        → lines_room (cond b ([] ∷ slice_split p xs) (onto_first x (slice_split p xs))) ≡ length (x ∷ xs) + 1
    by_test true rest some = omega arith
    by_test false rest some = onto_room x (slice_split p xs) some ∙ omega arith

less_end : (ls : List (List ℕ)) → lines_room (without_empty_end ls) ≤ lines_room ls
less_end [] = omega arith
less_end (x ∷ []) = by_test (length x == 0)
  where
    by_test : (b : Bool) → lines_room (cond b [] (x ∷ [])) ≤ lines_room (x ∷ [])
    by_test true = omega arith
    by_test false = omega arith
less_end (x ∷ y ∷ ls) = omega (arith, less_end (y ∷ ls))

pub lines_room-lines_of : (text : List ℕ) → lines_room (lines_of text) ≤ length text + 1
lines_room-lines_of text = omega (arith, less_end (slice_split is_feed text), split_room is_feed text)
