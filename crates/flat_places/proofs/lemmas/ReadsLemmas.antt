-- Forms, as the code reads them place by place.
use Rattle.std.proofs.lemmas.List.Splits.{length-slice_split}
use Rattle.std.proofs.Common.{is_some, IfOk, ◌++◌, ◌<◌, length, append_assoc, append-nil, ◌≡◌, ℕ, Bool, true, false, List, [], ◌∷◌, Option, Some, None, Result}
use Rattle.std.proofs.Common.{Ok, Err, refl, sym, ◌∙◌, ap, arith, cond, nat_le, nat_lt, ◌≤◌}
use Rattle.std.proofs.lemmas.Bool.Decides.{nat_tests}
use Rattle.std.specs.List.{slice_split, onto_first}
use Rattle.std.specs.Borrow.{Bor}
use Rattle.flat_text.specs.Pieces.{is_space}
use Rattle.flat_text.specs.Left.{pieces_left}
use Rattle.flat_places.specs.declared.kinds.FaultKind.{FaultKind}
use Rattle.flat_places.specs.declared.kinds.FaultKind.TheVariants.{WrongCount}
use Rattle.flat_places.specs.declared.word_cursor.WordCursor.{WordCursor}
use Rattle.flat_places.specs.Kinds.{number, lower_kind}
use Rattle.flat_places.specs.Forms.{place, each, optional, one_or_more, Word, Reading, Form, both, mapped, nothing, whole, give, passes, unless_kind, ◌<$>◌}
use Rattle.flat_places.specs.Forms.{◌<*>◌}
use Rattle.flat_base.specs.declared.limits.TheConstants.{RATIO_SINCE}
use Rattle.flat_places.specs.Places.{region, regions, transform, transforms, ratio, first_ratio}
use Rattle.flat_places.specs.Reads.{Reads, sofar, left, lower, giving, finished}

-- a text has a piece at least
nothing_onto : (x : ℕ) (parts : List (List ℕ)) → nothing (onto_first x parts) ≡ Err WrongCount
nothing_onto x [] = refl
nothing_onto x (part ∷ parts) = refl

nothing_split : (p : ℕ → Bool) (xs : List ℕ) → nothing (slice_split p xs) ≡ Err WrongCount
nothing_split p [] = refl
nothing_split p (x ∷ xs) = by_test (p x)
  where
    by_test : (b : Bool) → nothing (cond b ([] ∷ slice_split p xs) (onto_first x (slice_split p xs))) ≡ Err WrongCount
    by_test true = refl
    by_test false = nothing_onto x (slice_split p xs)

-- kinds

lower_left : (j k : FaultKind) → nat_le (number j) (number k) ≡ true → lower_kind j k ≡ j
lower_left j k test = ap (λ b. cond b j k) test

lower_right : (j k : FaultKind) → nat_le (number j) (number k) ≡ false → lower_kind j k ≡ k
lower_right j k test = ap (λ b. cond b j k) test

lowest : (i j k : FaultKind) → lower_kind (lower_kind i j) k ≡ lower_kind i (lower_kind j k)
lowest i j k = by_tests (nat_le (number i) (number j)) (nat_le (number j) (number k)) (nat_le (number i) (number k)) refl refl refl
  where
    by_tests : (a b c : Bool) → nat_le (number i) (number j) ≡ a → nat_le (number j) (number k) ≡ b → nat_le (number i) (number k) ≡ c
        → lower_kind (lower_kind i j) k ≡ lower_kind i (lower_kind j k)
    by_tests true true true p q r = ap (λ m. lower_kind m k) (lower_left i j p) ∙ lower_left i k r
        ∙ sym (ap (lower_kind i) (lower_left j k q) ∙ lower_left i j p)
    by_tests true true false p q r = absurd (grind (arith, nat_tests))
    by_tests true false c p q r = ap (λ m. lower_kind m k) (lower_left i j p) ∙ sym (ap (lower_kind i) (lower_right j k q))
    by_tests false true c p q r = ap (λ m. lower_kind m k) (lower_right i j p) ∙ lower_left j k q
        ∙ sym (ap (lower_kind i) (lower_left j k q) ∙ lower_right i j p)
    by_tests false false true p q r = absurd (grind (arith, nat_tests))
    by_tests false false false p q r = ap (λ m. lower_kind m k) (lower_right i j p) ∙ lower_right j k q
        ∙ sym (ap (lower_kind i) (lower_right j k q) ∙ lower_right i k r)

-- readings

ends : {A : Type 0} (v : A) (s : Reading (Unit {0})) → giving v s ≡ both (λ w _. w) (giving v s) (nothing [])
ends v (Ok u) = refl
ends v (Err k) = refl

goes_on : {A : Type 0} (v : A) (s : Reading (Unit {0})) (k : FaultKind) (n : Reading (Unit {0})) → n ≡ Err WrongCount
    → lower {A = Unit {0}} s (Err WrongCount) ≡ Err k → both (λ w _. w) (giving v s) n ≡ Err k
goes_on v (Ok u) k n e low = rw e (ap (mapped (λ _. v)) low)
goes_on v (Err j) k n e low = rw e (ap (mapped (λ _. v)) low)

pub goes_on_at : {A : Type 0} (v : A) (p : WordCursor) (text : Bor (List ℕ)) (k : FaultKind) → p.words ≡ Some text
    → lower {A = Unit {0}} (sofar p) (Err WrongCount) ≡ Err k → finished v p ≡ Err k
goes_on_at v p text k is low = goes_on v (sofar p) k (nothing (left p)) (ap (λ w. nothing (pieces_left is_space w)) is ∙ nothing_split is_space text.now) low

pub ends_at : {A : Type 0} (v : A) (p : WordCursor) → left p ≡ [] → giving v (sofar p) ≡ finished v p
ends_at v p none = rw none (ends v (sofar p))

lower_both : {A B C : Type 0} (h : A → B → C) (s : Reading (Unit {0})) (f : Reading A) (x : Reading B) → lower s (both h f x) ≡ both h (lower s f) x
lower_both h (Ok u) (Ok a) (Ok b) = refl
lower_both h (Ok u) (Ok a) (Err k) = refl
lower_both h (Ok u) (Err j) (Ok b) = refl
lower_both h (Ok u) (Err j) (Err k) = refl
lower_both h (Err i) (Ok a) (Ok b) = refl
lower_both h (Err i) (Ok a) (Err k) = refl
lower_both h (Err i) (Err j) (Ok b) = refl
lower_both h (Err i) (Err j) (Err k) = ap Err (sym (lowest i j k))

lower_mapped : {A B : Type 0} (h : A → B) (s : Reading (Unit {0})) (x : Reading A) → lower s (mapped h x) ≡ mapped h (lower s x)
lower_mapped h (Ok u) (Ok a) = refl
lower_mapped h (Ok u) (Err k) = refl
lower_mapped h (Err i) (Ok a) = refl
lower_mapped h (Err i) (Err k) = refl

both_giving : {A B C : Type 0} (h : A → B → C) (g : A) (t : Reading (Unit {0})) (x : Reading B) → both h (giving g t) x ≡ mapped (h g) (lower t x)
both_giving h g (Ok u) (Ok b) = refl
both_giving h g (Ok u) (Err k) = refl
both_giving h g (Err j) (Ok b) = refl
both_giving h g (Err j) (Err k) = refl

mapped_giving : {A B : Type 0} (h : A → B) (v : A) (t : Reading (Unit {0})) → mapped h (giving v t) ≡ giving (h v) t
mapped_giving h v (Ok u) = refl
mapped_giving h v (Err k) = refl

-- a form of two forms

pub after : {A B C : Type 0} (h : A → B → C) (s t u : Reading (Unit {0})) (f : Reading A) (x : Reading B) (g : A) (v : B)
    → lower s f ≡ giving g t → lower t x ≡ giving v u → lower s (both h f x) ≡ giving (h g v) u
after h s t u f x g v first second =
    lower_both h s f x ∙ ap (λ r. both h r x) first ∙ both_giving h g t x ∙ ap (mapped (h g)) second ∙ mapped_giving (h g) v u

then_words : {A B : Type 0} (f : Form (A → B)) (x : Form A) (p q r : List Word) → q ≡ (f p).1 → r ≡ (x q).1 → r ≡ ((f <*> x) p).1
then_words f x p q r first second = second ∙ ap (λ w. (x w).1) first

pub then : {A B : Type 0} {f : Form (A → B)} {x : Form A} {p q r : WordCursor} {g : A → B} {v : A} → Reads f p q g → Reads x q r v → Reads (f <*> x) p r (g v)
then {f = f} {x = x} {p = p} {q = q} {r = r} {g = g} {v = v} first second = record {
  words = then_words f x (left p) (left q) (left r) first.words second.words;
  outcome = after (λ h w. h w) (sofar p) (sofar q) (sofar r) (f (left p)).0 (x (f (left p)).1).0 g v first.outcome
      (ap (λ w. lower (sofar q) (x w).0) (sym first.words) ∙ second.outcome);
}

pub begin : {A B : Type 0} (h : A → B) {x : Form A} {p q : WordCursor} {v : A} → Reads x p q v → Reads (h <$> x) p q (h v)
begin h {x = x} {p = p} {q = q} {v = v} first = record {
  words = first.words;
  outcome = lower_mapped h (sofar p) (x (left p)).0 ∙ ap (mapped h) first.outcome ∙ mapped_giving h v (sofar q);
}

-- a whole form, from its first word

whole_both : {A : Type 0} (v : A) (t : Reading (Unit {0})) (r : Reading A) (n : Reading (Unit {0})) → r ≡ giving v t
    → both (λ w _. w) (giving v t) n ≡ both (λ w _. w) r n
whole_both v t r n is = ap (λ x. both (λ w _. w) x n) (sym is)

lower_ok : {A : Type 0} (r : Reading A) → lower (Ok (tt {0})) r ≡ r
lower_ok (Ok a) = refl
lower_ok (Err k) = refl

pub all : {A : Type 0} {form : Form A} {p q : WordCursor} {v : A} → sofar p ≡ Ok (tt {0}) → Reads form p q v → finished v q ≡ whole form (left p)
all {form = form} {p = p} {q = q} {v = v} fresh read =
    let first : (form (left p)).0 ≡ giving v (sofar q) = sym (lower_ok _) ∙ ap (λ s. lower s (form (left p)).0) (sym fresh) ∙ read.outcome in
    whole_both v (sofar q) (form (left p)).0 (nothing (left q)) first ∙ ap (λ w. both (λ a _. a) (form (left p)).0 (nothing w)) read.words

pub read_whole : {A : Type 0} (form : Form A) {p q : WordCursor} {v : A} {words : List Word} {r : Reading A} → left p ≡ words → sofar p ≡ Ok (tt {0})
    → Reads form p q v → r ≡ finished v q → r ≡ whole form words
read_whole form words fresh read is = is ∙ all fresh read ∙ ap (whole form) words

-- the same behind kinds that were found before

pub read_after : {A : Type 0} (form : Form A) {p q : WordCursor} {v : A} {words : List Word} {r : Reading A} → left p ≡ words → Reads form p q v
    → r ≡ finished v q
    → r ≡ lower (sofar p) (whole form words)
read_after form {p = p} {q = q} {v = v} {words = words} {r = r} at read is =
    let first : r ≡ both (λ w _. w) (giving v (sofar q)) (nothing (left q)) = is in
    let second : both (λ w _. w) (giving v (sofar q)) (nothing (left q)) ≡ both (λ w _. w) (lower (sofar p) (form (left p)).0) (nothing (left q)) =
    ap (λ x. both (λ w _. w) x (nothing (left q))) (sym read.outcome) in
    let third : both (λ w _. w) (lower (sofar p) (form (left p)).0) (nothing (left q))
    ≡ lower (sofar p) (both (λ w _. w) (form (left p)).0 (nothing (left q))) =
    sym (lower_both (λ w _. w) (sofar p) (form (left p)).0 (nothing (left q))) in
    first ∙ second ∙ third ∙ ap (λ w. lower (sofar p) (both (λ a _. a) (form (left p)).0 (nothing w))) read.words ∙ ap (λ w. lower (sofar p) (whole form w)) at

pub read_unless : {A : Type 0} (form : Form A) (k : FaultKind) (test : Bool) (o : WordCursor) {p q : WordCursor} {v : A} {words : List Word} {r : Reading A}
    → left o ≡ words → sofar o ≡ Ok (tt {0}) → p.words ≡ o.words → sofar p ≡ lower (sofar o) (passes k test) → Reads form p q v → r ≡ finished v q
    → r ≡ unless_kind k test (whole form words)
read_unless form k test o {p = p} {words = words} at fresh same low read is =
    let here : left p ≡ words = ap (pieces_left is_space) same ∙ at in
    let kinds : sofar p ≡ passes k test = low ∙ ap (λ s. lower s (passes k test)) fresh ∙ lower_ok (passes k test) in
    read_after form here read is ∙ ap (λ s. lower s (whole form words)) kinds

pub read_unless_2 : {A : Type 0} (form : Form A) (j k : FaultKind) (first second : Bool) (n o : WordCursor) {p q : WordCursor} {v : A} {words : List Word}
    {r : Reading A}
    → left n ≡ words → sofar n ≡ Ok (tt {0}) → o.words ≡ n.words → sofar o ≡ lower (sofar n) (passes j first) → p.words ≡ o.words
    → sofar p ≡ lower (sofar o) (passes k second)
    → Reads form p q v → r ≡ finished v q → r ≡ unless_kind j first (unless_kind k second (whole form words))
read_unless_2 form j k first second n o {p = p} {words = words} at fresh same low same2 low2 read is =
    let here : left p ≡ words = ap (pieces_left is_space) (same2 ∙ same) ∙ at in
    let kinds : sofar p ≡ lower (passes j first) (passes k second) =
    low2 ∙ ap (λ s. lower s (passes k second)) (low ∙ ap (λ s. lower s (passes j first)) fresh ∙ lower_ok (passes j first)) in
    read_after form here read is ∙ ap (λ s. lower s (whole form words)) kinds
    ∙ sym (lower_both (λ _ x. x) (passes j first) (passes k second) (whole form words))

both_mapped : {A B : Type 0} (h : A → B) (v : A) (s n : Reading (Unit {0})) → mapped h (both (λ w _. w) (giving v s) n) ≡ both (λ w _. w) (giving (h v) s) n
both_mapped h v (Ok u) (Ok w) = refl
both_mapped h v (Ok u) (Err k) = refl
both_mapped h v (Err j) (Ok w) = refl
both_mapped h v (Err j) (Err k) = refl

pub mapped_finished : {A B : Type 0} (h : A → B) (v : A) (q : WordCursor) (r : Reading A) → r ≡ finished v q → mapped h r ≡ finished (h v) q
mapped_finished h v q r is = ap (mapped h) is ∙ both_mapped h v (sofar q) (nothing (left q))

pub lower_given : {A : Type 0} (v : A) (s : Reading (Unit {0})) → lower s (Ok v) ≡ giving v s
lower_given v (Ok u) = refl
lower_given v (Err k) = refl

-- a form without places
pub given : {A : Type 0} (v : A) (p : WordCursor) → Reads (give v) p p v
given v p = record { words = refl; outcome = lower_given v (sofar p) }

-- a list of places, to the end of the line

mapped_both : {A B C D : Type 0} (h : C → D) (g : A → B → C) (f : Reading A) (x : Reading B) → mapped h (both g f x) ≡ both (λ a b. h (g a b)) f x
mapped_both h g (Ok a) (Ok b) = refl
mapped_both h g (Ok a) (Err k) = refl
mapped_both h g (Err j) (Ok b) = refl
mapped_both h g (Err j) (Err k) = refl

mapped_same : {A B : Type 0} (g h : A → B) (x : Reading A) → ((a : A) → g a ≡ h a) → mapped g x ≡ mapped h x
mapped_same g h (Ok a) same = ap Ok (same a)
mapped_same g h (Err k) same = refl

-- a group of places, and what is read behind it
pub one_more : {A : Type 0} (rest : List Word → Reading (List A)) (form : Form A) (found : List A) (v : A) (s t : Reading (Unit {0})) (xs ys : List Word)
    → rest xs ≡ both (λ a r. a ∷ r) (form xs).0 (rest (form xs).1) → ys ≡ (form xs).1 → lower s (form xs).0 ≡ giving v t
    → lower t (mapped (λ r. (found ++ v ∷ []) ++ r) (rest ys)) ≡ lower s (mapped (λ r. found ++ r) (rest xs))
one_more {A = A} rest form found v s t xs ys step here read =
    let h : A → List A → List A = λ a r. found ++ (a ∷ r) in
    let behind = rest (form xs).1 in
    let whole_line : lower s (mapped (λ r. found ++ r) (both (λ a r. a ∷ r) (form xs).0 behind)) ≡ lower t (mapped (h v) behind) =
    ap (lower s) (mapped_both (λ r. found ++ r) (λ a r. a ∷ r) (form xs).0 behind) ∙ lower_both h s (form xs).0 behind ∙ ap (λ x. both h x behind) read
    ∙ both_giving h v t behind ∙ sym (lower_mapped (h v) t behind) in
    ap (λ zs. lower t (mapped (λ r. (found ++ v ∷ []) ++ r) (rest zs))) here
    ∙ ap (lower t) (mapped_same (λ r. (found ++ v ∷ []) ++ r) (h v) behind (λ r. append_assoc found (v ∷ []) r)) ∙ sym whole_line
    ∙ ap (λ r. lower s (mapped (λ x. found ++ x) r)) (sym step)

pub each_step : {A : Type 0} (test : Word → Reading A) (xs : List Word) → 0 < length xs
    → each test xs ≡ both (λ a r. a ∷ r) (place test xs).0 (each test (place test xs).1)
each_step test [] some = absurd (omega arith)
each_step test (w ∷ ws) some = refl

pub regions_step : (xs : List Word) → 0 < length xs → regions xs ≡ both (λ a r. a ∷ r) (region xs).0 (regions (region xs).1)
regions_step [] some = absurd (omega arith)
regions_step (x ∷ []) some = refl
regions_step (x ∷ y ∷ []) some = refl
regions_step (x ∷ y ∷ w ∷ []) some = refl
regions_step (x ∷ y ∷ w ∷ h ∷ []) some = refl
regions_step (x ∷ y ∷ w ∷ h ∷ i ∷ ws) some = refl

pub region_shorter : (xs ys : List Word) → 0 < length xs → ys ≡ (region xs).1 → length ys < length xs
region_shorter [] ys some rest = absurd (omega arith)
region_shorter (x ∷ []) ys some rest = rw rest (omega arith)
region_shorter (x ∷ y ∷ []) ys some rest = rw rest (omega arith)
region_shorter (x ∷ y ∷ w ∷ []) ys some rest = rw rest (omega arith)
region_shorter (x ∷ y ∷ w ∷ h ∷ []) ys some rest = rw rest (omega arith)
region_shorter (x ∷ y ∷ w ∷ h ∷ i ∷ ws) ys some rest = rw rest (omega arith)

pub transforms_step : (xs : List Word) → 0 < length xs → transforms xs ≡ both (λ a r. a ∷ r) (transform xs).0 (transforms (transform xs).1)
transforms_step [] some = absurd (omega arith)
transforms_step (w ∷ ws) some = refl

pub transform_shorter : (xs ys : List Word) → 0 < length xs → ys ≡ (transform xs).1 → length ys < length xs
transform_shorter [] ys some rest = absurd (omega arith)
transform_shorter (w ∷ ws) ys some rest = rw rest (omega arith)

pub shorter : {A : Type 0} (test : Word → Reading A) (xs ys : List Word) → 0 < length xs → ys ≡ (place test xs).1 → length ys < length xs
shorter test [] ys some rest = absurd (omega arith)
shorter test (w ∷ ws) ys some rest = rw rest (omega arith)

pub no_more : {A : Type 0} (found : List A) (s : Reading (Unit {0})) → lower s (mapped (λ r. found ++ r) (Ok [])) ≡ giving found s
no_more found (Ok u) = ap Ok (append-nil found)
no_more found (Err k) = refl

pub some_left : (o : Option (Bor (List ℕ))) → is_some o ≡ true → 0 < length (pieces_left is_space o)
some_left None h = absurd (cc)
some_left (Some text) h = omega (arith, length-slice_split is_space text.now)

-- no group was read yet
pub none_read : {A : Type 0} (found : List A) (s : Reading (Unit {0})) (x : Reading (List A)) → found ≡ [] → lower s (mapped (λ r. found ++ r) x) ≡ lower s x
none_read found s (Ok r) is = rw is refl
none_read found s (Err k) is = refl

none_left : (o : Option (Bor (List ℕ))) → is_some o ≡ false → pieces_left is_space o ≡ []
none_left None h = refl
none_left (Some text) h = absurd (cc)

-- all groups to the end of the line
pub all_read : {A : Type 0} (rest : List Word → Reading (List A)) (p q : WordCursor) (v : List A) → rest [] ≡ Ok [] → is_some q.words ≡ false
    → lower (sofar q) (mapped (λ r. v ++ r) (rest (left q))) ≡ lower (sofar p) (rest (left p)) → Reads (λ ws. (rest ws, [])) p q v
all_read rest p q v ends none read =
    let gone = none_left q.words none in
    record {
      words = gone;
      outcome = sym read ∙ ap (λ ws. lower (sofar q) (mapped (λ r. v ++ r) (rest ws))) gone ∙ ap (λ x. lower (sofar q) (mapped (λ r. v ++ r) x)) ends
          ∙ no_more v (sofar q);
    }

-- a form that may be left out

optional_some : {A : Type 0} (form : Form A) (xs : List Word) → 0 < length xs → optional form xs ≡ (Some <$> form) xs
optional_some form [] some = absurd (omega arith)
optional_some form (w ∷ ws) some = refl

same_form : {A : Type 0} (f g : Form A) {p q : WordCursor} {v : A} → f (left p) ≡ g (left p) → Reads g p q v → Reads f p q v
same_form f g {p = p} {q = q} {v = v} same read = record {
  words = read.words ∙ ap (λ r. r.1) (sym same);
  outcome = ap (λ r. lower (sofar p) r.0) same ∙ read.outcome;
}

pub read_optional : {A : Type 0} (form : Form A) {p q : WordCursor} {v : A} → 0 < length (left p) → Reads form p q v → Reads (optional form) p q (Some v)
read_optional form {p = p} some read = same_form (optional form) (Some <$> form) (optional_some form (left p) some) (begin Some read)

one_or_more_some : {A : Type 0} (test : Word → Reading A) (xs : List Word) → 0 < length xs → one_or_more test xs ≡ each test xs
one_or_more_some test [] some = absurd (omega arith)
one_or_more_some test (w ∷ ws) some = refl

pub read_one_or_more : {A : Type 0} (test : Word → Reading A) {p q : WordCursor} {v : List A} → 0 < length (left p) → Reads (λ ws. (each test ws, [])) p q v
    → Reads (λ ws. (one_or_more test ws, [])) p q v
read_one_or_more test {p = p} some read = same_form (λ ws. (one_or_more test ws, [])) (λ ws. (each test ws, []))
    (ap (λ r. (r, [])) (one_or_more_some test (left p) some)) read

pub if_ok : {A E : Type 0} (P Q : A → Type 0) (r : Result A E) → ((v : A) → P v → Q v) → IfOk r P → IfOk r Q
if_ok P Q (Ok v) weaker holds = weaker v holds
if_ok P Q (Err e) weaker holds = tt

-- ---- pixel ratios

-- the first pixel ratio, where a word is left and the version has ratios
pub first_ratio_some : (version : ℕ) (xs : List Word) → 0 < length xs → RATIO_SINCE ≤ version → first_ratio version xs ≡ ratio xs
first_ratio_some version [] some has = absurd (omega arith)
first_ratio_some version (w ∷ ws) some has = let late : nat_lt version RATIO_SINCE ≡ false = grind (arith, nat_tests) in rw late refl
