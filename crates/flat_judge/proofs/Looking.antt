-- Looking through the lines that may answer probes.
use Rattle.std.proofs.Common.{◌≡◌, ℕ, zero, suc, ◌+◌, ◌<◌, ◌≤◌, ◌==◌, Bool, true, false, cond, List, [], ◌∷◌, ◌++◌, length, drop, replicate, append_assoc}
use Rattle.std.proofs.Common.{append-nil, length-append, refl, sym, ap, ◌∙◌, arith, Option, Some, Result, Ok, Err, slice_get}
use Rattle.std.proofs.Common.{slice_set}
use Rattle.std.specs.Prelude.{IfOk, OnOk}
use Rattle.std.specs.List.{flat_map, range_with_len}
use Rattle.std.proofs.lemmas.Bool.{eq-eqb, eqb-true}
use Rattle.std.proofs.lemmas.Bool.Decides.{nat_tests}
use Rattle.flat_scene.specs.declared.script.ScriptLine.{ScriptLine}
use Rattle.flat_places.specs.declared.script.Script.{Script}
use Rattle.flat_text.specs.Pieces.{lines_of, words_of}
use Rattle.flat_report.specs.Report.{probe_lines_of}
use Rattle.flat_judge.specs.Hints.{AreHints, AreNamed, NotesLine, answer_lines, frame_told, hint_in, is_this, probe_answered}

-- ---- lines that are passed

pub drop-end : {A : Type 0} (n m : ℕ) (xs : List A) → n ≤ m → drop n xs ≡ [] → drop m xs ≡ []
drop-end n m [] less none = end m
  where
    end : {A : Type 0} (m : ℕ) → drop {A = A} m [] ≡ []
    end zero = refl
    end (suc m) = refl
drop-end zero m (x ∷ xs) less none = absurd (cc)
drop-end (suc n) zero (x ∷ xs) less none = absurd (omega (arith, less))
drop-end (suc n) (suc m) (x ∷ xs) less none = drop-end n m xs (omega (arith, less)) none

pub drop-more : {A : Type 0} (n : ℕ) (xs : List A) (x : A) (later : List A) → drop n xs ≡ x ∷ later → drop (n + 1) xs ≡ later
drop-more zero [] x later is = absurd (cc)
drop-more zero (y ∷ xs) x later is = cc
drop-more (suc n) [] x later is = absurd (cc)
drop-more (suc n) (y ∷ xs) x later is = ap (λ (k : ℕ). drop k (y ∷ xs)) (let one : suc n + 1 ≡ suc (n + 1) = omega arith in one) ∙ drop-more n xs x later is

-- ---- lines that are counted

numbers-more : {A : Type 0} (f : ℕ → List A) (n count : ℕ) → flat_map f (range_with_len n (suc count)) ≡ flat_map f (range_with_len n count) ++ f (n + count)
numbers-more f n zero = append-nil (f n) ∙ ap f (let same : n ≡ n + 0 = omega arith in same)
numbers-more f n (suc count) =
    ap (λ xs. f n ++ xs) (numbers-more f (n + 1) count ∙ ap (λ (k : ℕ). flat_map f (range_with_len (n + 1) count) ++ f k)
    (let same : n + 1 + count ≡ n + suc count = omega arith in same))
    ∙ sym (append_assoc (f n) (flat_map f (range_with_len (n + 1) count)) (f (n + suc count)))

-- the lines of the first probes
abbrev pub lines_to : ℕ → List ScriptLine → List ScriptLine
lines_to probes lines = flat_map (λ n. probe_lines_of n lines) (range_with_len 0 probes)

pub lines-more : (probe : ℕ) (lines : List ScriptLine)
    → length (lines_to (probe + 1) lines) ≡ length (lines_to probe lines) + length (probe_lines_of probe lines)
lines-more probe lines =
    ap (λ (n : ℕ). length (lines_to n lines)) (let one : probe + 1 ≡ suc probe = omega arith in one)
    ∙ ap length (numbers-more (λ n. probe_lines_of n lines) 0 probe)
    ∙ length-append (lines_to probe lines) (probe_lines_of (0 + probe) lines)
    ∙ ap (λ (n : ℕ). length (lines_to probe lines) + length (probe_lines_of n lines)) (let same : 0 + probe ≡ probe = omega arith in same)

-- ---- lines that are noted

item-below : {A : Type 0} (xs : List A) (n : ℕ) (x : A) → slice_get xs n ≡ Some x → n < length xs
item-below [] n x at = absurd (cc)
item-below (y ∷ xs) zero x at = omega arith
item-below (y ∷ xs) (suc n) x at = let rest = item-below xs n x at in omega (arith, rest)

set-many : {A : Type 0} (xs : List A) (n : ℕ) (x : A) → length (slice_set xs n x) ≡ length xs
set-many [] n x = refl
set-many (y ∷ xs) zero x = refl
set-many (y ∷ xs) (suc n) x = ap suc (set-many xs n x)

set-same : {A : Type 0} (xs : List A) (n : ℕ) (x y : A) → slice_get xs n ≡ Some y → slice_get (slice_set xs n x) n ≡ Some x
set-same [] n x y at = absurd (cc)
set-same (z ∷ xs) zero x y at = refl
set-same (z ∷ xs) (suc n) x y at = set-same xs n x y at

set-other : {A : Type 0} (xs : List A) (n k : ℕ) (x : A) → (k ≡ n → ⊥) → slice_get (slice_set xs n x) k ≡ slice_get xs k
set-other [] n k x apart = refl
set-other (z ∷ xs) zero zero x apart = absurd (apart refl)
set-other (z ∷ xs) zero (suc k) x apart = refl
set-other (z ∷ xs) (suc n) zero x apart = refl
set-other (z ∷ xs) (suc n) (suc k) x apart = set-other xs n k x (λ same. apart (ap suc same))

pub notes-none : (script : Script) (line : List ℕ) (hints : List (List ℕ))
    → ((n : ℕ) → n < length hints → is_this n (probe_answered script (words_of line)) ≡ false) → NotesLine script line hints hints
notes-none script line hints none = record {
  count = refl;
  each = λ probe one at.
      let no_hint : hint_in script probe line ≡ [] = ap (λ b. cond b (frame_told (words_of line) ∷ []) []) (none probe (item-below hints probe one at)) in
      at ∙ ap (λ (os : List ℕ). Some os) (sym (append-nil one) ∙ ap (λ (os : List ℕ). one ++ os) (sym no_hint));
}

pub notes-one : (script : Script) (line : List ℕ) (hints : List (List ℕ)) (probe : ℕ) (was : List ℕ) (new : List (List ℕ)) → slice_get hints probe ≡ Some was
    → probe_answered script (words_of line) ≡ Some probe
    → new ≡ slice_set hints probe (was ++ frame_told (words_of line) ∷ []) → NotesLine script line hints new
notes-one script line hints probe was new here answers new_is = record {
  count = ap length new_is ∙ set-many hints probe (was ++ frame_told (words_of line) ∷ []);
  each = λ n one at. by n one at (probe == n) refl;
}
  where
    next : List ℕ
    next = was ++ frame_told (words_of line) ∷ []

    hint : (n : ℕ) (b : Bool) → (probe == n) ≡ b → hint_in script n line ≡ cond b (frame_told (words_of line) ∷ []) []
    hint n b is = ap (λ (o : Option ℕ). cond (is_this n o) (frame_told (words_of line) ∷ []) []) answers
        ∙ ap (λ t. cond t (frame_told (words_of line) ∷ []) []) is

    by : (n : ℕ) (one : List ℕ) → slice_get hints n ≡ Some one → (b : Bool) → (probe == n) ≡ b → slice_get new n ≡ Some (one ++ hint_in script n line)
    by n one at true is =
        let same : probe ≡ n = eqb-true probe n is in
        let both : Some was ≡ Some one = sym here ∙ ap (slice_get hints) same ∙ at in
        let was_is : was ≡ one = cc in
        ap (λ (hs : List (List ℕ)). slice_get hs n) new_is
        ∙ ap (λ (k : ℕ). slice_get (slice_set hints k next) n) same
        ∙ set-same hints n next one at
        ∙ (λ i. Some (was_is i ++ sym (hint n true is) i))
    by n one at false is =
        let apart : n ≡ probe → ⊥ = λ same. (let both : true ≡ false = sym (eq-eqb probe n (sym same)) ∙ is in absurd (cc)) in
        ap (λ (hs : List (List ℕ)). slice_get hs n) new_is ∙ set-other hints probe n next apart ∙ at
        ∙ ap (λ (os : List ℕ). Some os) (sym (append-nil one) ∙ ap (λ (os : List ℕ). one ++ os) (sym (hint n false is)))

-- ---- reading on

-- What is noted, and what the lines that are left name, is what all lines name.
pub record NotedTo (script : Script) (lines : List (List ℕ)) (rest : List ℕ) (hints : List (List ℕ)) : Type 0 where
  pub count : length hints ≡ script.setup.probes
  pub each : (probe : ℕ) (one : List ℕ) → slice_get hints probe ≡ Some one
      → one ++ flat_map (hint_in script probe) (lines_of rest) ≡ flat_map (hint_in script probe) lines

none-at : {A : Type 0} (n k : ℕ) (one : List A) → slice_get (replicate n []) k ≡ Some one → one ≡ []
none-at zero k one at = absurd (cc)
none-at (suc n) zero one at = cc
none-at (suc n) (suc k) one at = none-at n k one at

many-none : (n : ℕ) → length (replicate {A = List ℕ} n []) ≡ n
many-none zero = refl
many-none (suc n) = ap suc (many-none n)

pub noted-first : (script : Script) (text : List ℕ) (hints : List (List ℕ)) → hints ≡ replicate script.setup.probes []
    → NotedTo script (lines_of text) text hints
noted-first script text hints none = record {
  count = ap length none ∙ many-none script.setup.probes;
  each = λ probe one at.
      let empty : one ≡ [] = none-at script.setup.probes probe one (ap (λ (hs : List (List ℕ)). slice_get hs probe) (sym none) ∙ at) in
      ap (λ (os : List ℕ). os ++ flat_map (hint_in script probe) (lines_of text)) empty;
}

record Found {A : Type 0} (xs : List A) (k : ℕ) : Type 0 where
  item : A
  at : slice_get xs k ≡ Some item

found : {A : Type 0} (xs : List A) (k : ℕ) → k < length xs → Found xs k
found [] k below = absurd (omega (arith, below))
found (x ∷ xs) zero below = record { item = x; at = refl }
found (x ∷ xs) (suc k) below = let later = found xs k (omega (arith, below)) in record { item = later.item; at = later.at }

pub noted-more : (script : Script) (lines : List (List ℕ)) (rest line later : List ℕ) (old new : List (List ℕ)) → NotedTo script lines rest old
    → lines_of rest ≡ line ∷ lines_of later → NotesLine script line old new → NotedTo script lines later new
noted-more script lines rest line later old new sofar is notes = record {
  count = notes.count ∙ sofar.count;
  each = λ probe one at.
      let below = item-below new probe one at in
      let many = notes.count in
      let was = found old probe (omega (arith, below, many)) in
      let both : Some one ≡ Some (was.item ++ hint_in script probe line) = sym at ∙ notes.each probe was.item was.at in
      let one_is : one ≡ was.item ++ hint_in script probe line = cc in
      ap (λ (os : List ℕ). os ++ flat_map (hint_in script probe) (lines_of later)) one_is
      ∙ append_assoc was.item (hint_in script probe line) (flat_map (hint_in script probe) (lines_of later))
      ∙ ap (λ (ls : List (List ℕ)). was.item ++ flat_map (hint_in script probe) ls) (sym is)
      ∙ sofar.each probe was.item was.at;
}

pub noted-all : (script : Script) (lines : List (List ℕ)) (rest : List ℕ) (hints : List (List ℕ)) → NotedTo script lines rest hints → lines_of rest ≡ []
    → AreNamed script lines hints
noted-all script lines rest hints sofar none = record {
  count = sofar.count;
  each = λ probe one at. sym (append-nil one) ∙ ap (λ (ls : List (List ℕ)). one ++ flat_map (hint_in script probe) ls) (sym none) ∙ sofar.each probe one at;
}

-- what the last lines name are the hints
pub last-hints : (script : Script) (text : List ℕ) (lines : List (List ℕ)) (hints : List (List ℕ)) → AreNamed script lines hints
    → lines ≡ answer_lines script text → AreHints script text hints
last-hints script text lines hints are last = record {
  count = are.count;
  each = λ all probe one at. are.each probe one at ∙ ap (flat_map (hint_in script probe)) last;
}

-- and where they name too few, what is read in their place is not asked for
pub other-hints : (script : Script) (text : List ℕ) (lines : List (List ℕ)) (hints others : List (List ℕ)) → AreNamed script lines hints
    → lines ≡ answer_lines script text → length others ≡ script.setup.probes
    → (((probe : ℕ) (one : List ℕ) → slice_get hints probe ≡ Some one → length one ≡ length (probe_lines_of probe script.lines)) → ⊥)
    → AreHints script text others
other-hints script text lines hints others are last many few = record {
  count = many;
  each = λ all probe one at. absurd (few (λ n two got.
      let below = item-below hints n two got in
      let count = are.count in
      ap length (are.each n two got ∙ ap (flat_map (hint_in script n)) last) ∙ all n (omega (arith, below, count))));
}

-- a probe has fewer answers, or more
pub not-whole : (script : Script) (hints : List (List ℕ)) (probe : ℕ) (one : List ℕ) → slice_get hints probe ≡ Some one
    → (length one ≡ length (probe_lines_of probe script.lines) → ⊥)
    → ((n : ℕ) (two : List ℕ) → slice_get hints n ≡ Some two → length two ≡ length (probe_lines_of n script.lines)) → ⊥
not-whole script hints probe one at differs all = differs (all probe one at)

pub lines-none : (text : List ℕ) → length text ≡ 0 → lines_of text ≡ []
lines-none [] none = refl
lines-none (x ∷ text) none = absurd (omega (arith, none))

pub not-this : (found n : ℕ) → n < found → is_this n (Some found) ≡ false
not-this found n below = grind (arith, nat_tests)

pub on-ok : {A E P Q : Type 0} (r : Result A E) → (P → Q) → OnOk r P → OnOk r Q
on-ok (Ok x) then so = then so
on-ok (Err e) then so = so

pub if-ok : {A E : Type 0} {P Q : A → Type 0} (r : Result A E) → ((x : A) → P x → Q x) → IfOk r P → IfOk r Q
if-ok (Ok x) then so = then x so
if-ok (Err e) then so = so
