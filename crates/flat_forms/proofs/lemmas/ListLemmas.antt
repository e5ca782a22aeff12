-- The fences of a list, up to the word that ends it.
use Rattle.std.proofs.Common.{◌≡◌, suc, ◌+◌, ◌<◌, nat_lt, not, Bool, true, false, ◌||◌, cond, List, [], ◌∷◌, ◌++◌, length, take, drop, Ok, Err, refl, sym, ◌∙◌}
use Rattle.std.proofs.Common.{ap, arith, codes, if◌then◌else◌, ◌⊎◌, inl, inr}
use Rattle.std.specs.List.{list_any, before_first, after_first, position_or_len}
use Rattle.std.proofs.lemmas.Bool.Decides.{nat_tests}
use Rattle.std.proofs.lemmas.Slice.Eq.{bytes_eq-Decides}
use Rattle.flat_base.specs.declared.ids.FenceNo.{FenceNo}
use Rattle.flat_text.specs.Pieces.{is_space}
use Rattle.flat_text.specs.Left.{pieces_left}
use Rattle.flat_places.specs.declared.kinds.FaultKind.TheVariants.{WrongCount}
use Rattle.flat_places.specs.declared.word_cursor.WordCursor.{WordCursor}
use Rattle.flat_places.specs.Forms.{Word, Reading, Form, both, mapped, place, each, one_or_more, passes}
use Rattle.flat_places.specs.Reads.{Reads, reading_of, sofar, lower, giving, left}
use Rattle.std.specs.Str.{bytes_eq}
use Rattle.flat_forms.specs.Body.{fence_lists}
use Rattle.flat_forms.specs.Lists.{ends_list, behind_end, ReadsList}
use Rattle.flat_places.proofs.lemmas.ReadsLemmas.{one_more, no_more, after, lower_given}

-- the words before the first that passes, and those behind it, word by word

pub stops_before : (p : Word → Bool) (w : Word) (ws : List Word) → p w ≡ true → before_first p (w ∷ ws) ≡ []
stops_before p w ws at = ap (λ b. take (cond (not b) (1 + position_or_len p ws) 0) (w ∷ ws)) at

pub goes_before : (p : Word → Bool) (w : Word) (ws : List Word) → p w ≡ false → before_first p (w ∷ ws) ≡ w ∷ before_first p ws
goes_before p w ws at =
    let next : 1 + position_or_len p ws ≡ suc (position_or_len p ws) = omega arith in
    ap (λ b. take (cond (not b) (1 + position_or_len p ws) 0) (w ∷ ws)) at ∙ ap (λ n. take n (w ∷ ws)) next

pub stops_behind : (p : Word → Bool) (w : Word) (ws : List Word) → p w ≡ true → after_first p (w ∷ ws) ≡ ws
stops_behind p w ws at = ap (λ b. drop (cond (not b) (1 + position_or_len p ws) 0 + 1) (w ∷ ws)) at

pub goes_behind : (p : Word → Bool) (w : Word) (ws : List Word) → p w ≡ false → after_first p (w ∷ ws) ≡ after_first p ws
goes_behind p w ws at =
    let next : 1 + position_or_len p ws + 1 ≡ suc (position_or_len p ws + 1) = omega arith in
    ap (λ b. drop (cond (not b) (1 + position_or_len p ws) 0 + 1) (w ∷ ws)) at ∙ ap (λ n. drop n (w ∷ ws)) next

-- the first word belongs to the list
pub record Goes (p : Word → Bool) (xs : List Word) : Type 0 where
  pub w : Word
  pub ws : List Word
  pub is : xs ≡ w ∷ ws
  pub none : p w ≡ false

pub goes : (p : Word → Bool) (xs : List Word) → nat_lt 0 (length (before_first p xs)) ≡ true → Goes p xs
goes p [] some = absurd (cc)
goes p (w ∷ ws) some = by_test (p w) refl
  where
    by_test : (b : Bool) → p w ≡ b → Goes p (w ∷ ws)
    by_test true at = absurd (let wrong : nat_lt 0 0 ≡ true = sym (ap (λ xs. nat_lt 0 (length xs)) (stops_before p w ws at)) ∙ some in cc)
    by_test false at = record { w = w; ws = ws; is = refl; none = at }

-- some fences of a list were read, and the others are to come
pub record ListGoes (test : Word → Reading FenceNo) (follows : Bool) (old new : WordCursor) (found : List FenceNo) : Type 0 where
  pub read : lower (sofar new) (mapped (λ rest. found ++ rest) (each test (before_first (ends_list follows) (left new))))
      ≡ lower (sofar old) (each test (before_first (ends_list follows) (left old)))
  pub more : list_any (ends_list follows) (left new) ≡ list_any (ends_list follows) (left old)
  pub behind : after_first (ends_list follows) (left new) ≡ after_first (ends_list follows) (left old)

list_step : {A : Type 0} (p : Word → Bool) (test : Word → Reading A) (xs : List Word) → Goes p xs
    → each test (before_first p xs) ≡ both (λ a r. a ∷ r) (place test xs).0 (each test (before_first p (place test xs).1))
list_step p test xs g = rw g.is (ap (each test) (goes_before p g.w g.ws g.none))

more_step : {A : Type 0} (p : Word → Bool) (test : Word → Reading A) (xs : List Word) → Goes p xs → list_any p (place test xs).1 ≡ list_any p xs
more_step p test xs g = rw g.is (sym (ap (λ b. b || list_any p g.ws) g.none))

behind_step : {A : Type 0} (p : Word → Bool) (test : Word → Reading A) (xs : List Word) → Goes p xs → after_first p (place test xs).1 ≡ after_first p xs
behind_step p test xs g = rw g.is (sym (goes_behind p g.w g.ws g.none))

pub shorter_step : {A : Type 0} (p : Word → Bool) (test : Word → Reading A) (xs ys : List Word) → Goes p xs → ys ≡ (place test xs).1 → length ys < length xs
shorter_step p test xs ys g is = rw (is, g.is) (omega arith)

-- one fence more
pub list_goes : (test : Word → Reading FenceNo) (follows : Bool) (old mid new : WordCursor) (found next : List FenceNo) (v : FenceNo)
    → ListGoes test follows old mid found → Goes (ends_list follows) (left mid) → Reads (place test) mid new v → next ≡ found ++ v ∷ []
    → ListGoes test follows old new next
list_goes test follows old mid new found next v so_far g read is =
    let p = ends_list follows in
    record {
      read =
          ap (λ items. lower (sofar new) (mapped (λ r. items ++ r) (each test (before_first p (left new))))) is
          ∙ one_more (λ xs. each test (before_first p xs)) (place test) found v (sofar mid) (sofar new) (left mid) (left new) (list_step p test (left mid) g)
          read.words read.outcome
          ∙ so_far.read;
      more = ap (list_any p) read.words ∙ more_step p test (left mid) g ∙ so_far.more;
      behind = ap (after_first p) read.words ∙ behind_step p test (left mid) g ∙ so_far.behind;
    }

is_some_word : (x : Word) (xs : List Word) → nat_lt 0 (length (x ∷ xs)) ≡ true
is_some_word x xs = grind (arith, nat_tests)

none_before : (xs : List Word) → nat_lt 0 (length xs) ≡ false → xs ≡ []
none_before [] none = refl
none_before (x ∷ xs) none = absurd (let wrong : false ≡ true = sym none ∙ is_some_word x xs in cc)

-- the list's end
pub list_ends : (test : Word → Reading FenceNo) (follows : Bool) (old new : WordCursor) (found : List FenceNo)
    → ListGoes test follows old new found → nat_lt 0 (length (before_first (ends_list follows) (left new))) ≡ false
    → ReadsList (each test) follows old new found
list_ends test follows old new found so_far none =
    let stops = none_before (before_first (ends_list follows) (left new)) none in
    record {
      read = sym so_far.read ∙ ap (λ xs. lower (sofar new) (mapped (λ r. found ++ r) (each test xs))) stops ∙ no_more found (sofar new);
      stops = stops;
      more = so_far.more;
      behind = so_far.behind;
    }

-- a fence at least

one_at_least : {A : Type 0} (test : Word → Reading A) (s : Reading (Unit {0})) (xs : List Word)
    → lower s (one_or_more test xs) ≡ lower (lower s (passes WrongCount (nat_lt 0 (length xs)))) (each test xs)
one_at_least test (Ok u) [] = refl
one_at_least test (Err k) [] = refl
one_at_least test (Ok u) (x ∷ xs) = ap (λ b. lower (lower {A = Unit {0}} (Ok u) (passes WrongCount b)) (each test (x ∷ xs))) (sym (is_some_word x xs))
one_at_least test (Err k) (x ∷ xs) = ap (λ b. lower (lower {A = Unit {0}} (Err k) (passes WrongCount b)) (each test (x ∷ xs))) (sym (is_some_word x xs))

pub some_list : (test : Word → Reading FenceNo) (follows : Bool) (old mid new : WordCursor) (found : List FenceNo)
    → mid.words ≡ old.words → sofar mid ≡ lower (sofar old) (passes WrongCount (nat_lt 0 (length (before_first (ends_list follows) (left old)))))
    → ReadsList (each test) follows mid new found
    → ReadsList (one_or_more test) follows old new found
some_list test follows old mid new found words kinds list =
    let p = ends_list follows in
    let same : left mid ≡ left old = ap (pieces_left is_space) words in
    record {
      read = one_at_least test (sofar old) (before_first p (left old)) ∙ ap (λ s. lower s (each test (before_first p (left old)))) (sym kinds)
          ∙ ap (λ xs. lower (sofar mid) (each test (before_first p xs))) (sym same) ∙ list.read;
      stops = list.stops;
      more = list.more ∙ ap (list_any p) same;
      behind = list.behind ∙ ap (after_first p) same;
    }

-- a list that goes to the end of the line

all_before : (xs : List Word) → before_first (ends_list false) xs ≡ xs
all_before [] = refl
all_before (x ∷ xs) = goes_before (ends_list false) x xs refl ∙ ap (λ ys. x ∷ ys) (all_before xs)

pub last_list : (reading : List Word → Reading (List FenceNo)) (old new : WordCursor) (found : List FenceNo) → ReadsList reading false old new found
    → Reads (λ words. (reading words, [])) old new found
last_list reading old new found list = record {
  words = sym (all_before (left new)) ∙ list.stops;
  outcome = ap (λ xs. lower (sofar old) (reading xs)) (sym (all_before (left old))) ∙ list.read;
}

-- what may stand behind a list's end

pub ends_line : (reading : List Word → Reading (List FenceNo)) (old new : WordCursor) → left old ≡ [] → left new ≡ [] → new.fault ≡ old.fault
    → Reads (behind_end reading) old new []
ends_line reading old new none gone same = record {
  words = gone;
  outcome = ap (λ xs. lower (sofar old) (behind_end reading xs).0) none ∙ lower_given [] (sofar old) ∙ ap (λ f. giving [] (reading_of f)) (sym same);
}

must_end : (p : Word → Bool) (w : Word) (ws : List Word) (b : Bool) → p w ≡ b → before_first p (w ∷ ws) ≡ [] → p w ≡ true
must_end p w ws true at none = at
must_end p w ws false at none = absurd (let wrong : w ∷ before_first p ws ≡ [] = sym (goes_before p w ws at) ∙ none in cc)

pub goes_on_behind : (reading : List Word → Reading (List FenceNo)) (old mid new : WordCursor) (w : Word) (found : List FenceNo)
    → before_first (ends_list true) (left old) ≡ [] → left old ≡ w ∷ left mid → mid.fault ≡ old.fault → Reads (λ words. (reading words, [])) mid new found
    → Reads (behind_end reading) old new found
goes_on_behind reading old mid new w found stops at same read =
    let p = ends_list true in
    let is_end = must_end p w (left mid) (p w) refl (ap (before_first p) (sym at) ∙ stops) in
    let any : list_any p (left old) ≡ true = ap (list_any p) at ∙ ap (λ b. b || list_any p (left mid)) is_end in
    let rest : after_first p (left old) ≡ left mid = ap (after_first p) at ∙ stops_behind p w (left mid) is_end in
    record {
      words = read.words;
      outcome = ap (λ b. lower (sofar old) (if b then reading (after_first p (left old)) else Ok [])) any ∙ ap (λ xs. lower (sofar old) (reading xs)) rest
          ∙ ap (λ f. lower (reading_of f) (reading (left mid))) (sym same) ∙ read.outcome;
    }

-- both lists of a present

abbrev pub all_lists : (Word → Reading FenceNo) → Form (List FenceNo × List FenceNo)
all_lists test words = (fence_lists test words, [])

abbrev pub pair_of : List FenceNo → List FenceNo → List FenceNo × List FenceNo
pair_of a r = (a, r)

by_other : (test : Word → Reading FenceNo) (w : Word) (ws : List Word) → bytes_eq w (codes "acquire") ≡ false
    → fence_lists test (w ∷ ws) ≡ (if bytes_eq w (codes "release") then both pair_of (Ok []) (one_or_more test ws) else Err WrongCount)
by_other test w ws other =
    ap (λ b. if b then both pair_of (one_or_more test (before_first (ends_list true) ws)) (behind_end (one_or_more test) ws).0
    else (if bytes_eq w (codes "release") then both pair_of (Ok []) (one_or_more test ws) else Err WrongCount)) other

pub by_acquire : (test : Word → Reading FenceNo) (w : Word) (ws : List Word) → bytes_eq w (codes "acquire") ≡ true
    → fence_lists test (w ∷ ws) ≡ both pair_of (one_or_more test (before_first (ends_list true) ws)) (behind_end (one_or_more test) ws).0
by_acquire test w ws is =
    ap (λ b. if b then both pair_of (one_or_more test (before_first (ends_list true) ws)) (behind_end (one_or_more test) ws).0
    else (if bytes_eq w (codes "release") then both pair_of (Ok []) (one_or_more test ws) else Err WrongCount)) is

pub by_release : (test : Word → Reading FenceNo) (w : Word) (ws : List Word) → bytes_eq w (codes "acquire") ≡ false → bytes_eq w (codes "release") ≡ true
    → fence_lists test (w ∷ ws) ≡ both pair_of (Ok []) (one_or_more test ws)
by_release test w ws other is = by_other test w ws other ∙ ap (λ b. if b then both pair_of (Ok []) (one_or_more test ws) else Err WrongCount) is

pub by_neither : (test : Word → Reading FenceNo) (w : Word) (ws : List Word) → bytes_eq w (codes "acquire") ≡ false → bytes_eq w (codes "release") ≡ false
    → fence_lists test (w ∷ ws) ≡ Err WrongCount
by_neither test w ws other is = by_other test w ws other ∙ ap (λ b. if b then both pair_of (Ok []) (one_or_more test ws) else Err WrongCount) is

-- lists that were read begin with one of the keywords
abbrev pub ListsOk : (Word → Reading FenceNo) → Word → List Word → List FenceNo × List FenceNo → Type 0
ListsOk test w ws lists =
    ((w ≡ codes "acquire") × (both pair_of (one_or_more test (before_first (ends_list true) ws)) (behind_end (one_or_more test) ws).0 ≡ Ok lists))
    ⊎ ((w ≡ codes "release") × (both pair_of (Ok []) (one_or_more test ws) ≡ Ok lists))

pub lists_ok : (test : Word → Reading FenceNo) (w : Word) (ws : List Word) (lists : List FenceNo × List FenceNo) → fence_lists test (w ∷ ws) ≡ Ok lists
    → ListsOk test w ws lists
lists_ok test w ws lists is = by_keyword (bytes_eq w (codes "acquire")) (bytes_eq w (codes "release")) refl refl
  where
    by_keyword : (b c : Bool) → bytes_eq w (codes "acquire") ≡ b → bytes_eq w (codes "release") ≡ c → ListsOk test w ws lists
    by_keyword true c at other = inl ((bytes_eq-Decides w (codes "acquire")).0 at, sym (by_acquire test w ws at) ∙ is)
    by_keyword false true at other = inr ((bytes_eq-Decides w (codes "release")).0 other, sym (by_release test w ws at other) ∙ is)
    by_keyword false false at other = absurd (let wrong : Err WrongCount ≡ Ok lists = sym (by_neither test w ws at other) ∙ is in cc)

pub acquire_read : (test : Word → Reading FenceNo) (old mid past new : WordCursor) (w : Word) (a r : List FenceNo) → left old ≡ w ∷ left mid
    → mid.fault ≡ old.fault
    → bytes_eq w (codes "acquire") ≡ true
    → ReadsList (one_or_more test) true mid past a → Reads (behind_end (one_or_more test)) past new r → Reads (all_lists test) old new (a, r)
acquire_read test old mid past new w a r at same is list read =
    let p = ends_list true in
    let first : lower (sofar old) (one_or_more test (before_first p (left mid))) ≡ giving a (sofar past) =
    ap (λ f. lower (reading_of f) (one_or_more test (before_first p (left mid)))) (sym same) ∙ list.read in
    let behind : (behind_end (one_or_more test) (left mid)).0 ≡ (behind_end (one_or_more test) (left past)).0 =
    ap (λ b. if b then one_or_more test (after_first p (left mid)) else Ok []) (sym list.more)
    ∙ ap (λ xs. if list_any p (left past) then one_or_more test xs else Ok []) (sym list.behind) in
    record {
      words = read.words;
      outcome = ap (λ xs. lower (sofar old) (fence_lists test xs)) at ∙ ap (lower (sofar old)) (by_acquire test w (left mid) is)
          ∙ after pair_of (sofar old) (sofar past) (sofar new) (one_or_more test (before_first p (left mid))) (behind_end (one_or_more test) (left mid)).0 a r
          first (ap (lower (sofar past)) behind ∙ read.outcome);
    }
