-- What a form gave says what its places gave.
use Rattle.std.proofs.Common.{◌≡◌, Bool, true, false, List, [], ◌∷◌, ◌++◌, Option, Some, None, Ok, Err, refl, sym, ◌∙◌, ap, append-nil}
use Rattle.flat_forms.specs.declared.lines.LineError.{LineError}
use Rattle.flat_forms.specs.declared.lines.LineError.TheVariants.{Kind, Memory}
use Rattle.flat_forms.specs.Steps.{Refused}
use Rattle.flat_places.specs.declared.kinds.FaultKind.{FaultKind}
use Rattle.flat_places.specs.Forms.{Word, Reading, Form, both, mapped, nothing, whole, place, unless_kind, or_kind, ◌<$>◌, ◌<*>◌}

-- the form gives that value, and leaves those words
pub record Gives {A : Type 0} (form : Form A) (words : List Word) (v : A) (rest : List Word) : Type 0 where
  pub value : (form words).0 ≡ Ok v
  pub left : (form words).1 ≡ rest

pub record BothGive {A B C : Type 0} (f : A → B → C) (x : Reading A) (y : Reading B) (v : C) : Type 0 where
  pub a : A
  pub b : B
  pub first : x ≡ Ok a
  pub second : y ≡ Ok b
  pub value : f a b ≡ v

pub both_ok : {A B C : Type 0} (f : A → B → C) (x : Reading A) (y : Reading B) (v : C) → both f x y ≡ Ok v → BothGive f x y v
both_ok f (Ok a) (Ok b) v is = record { a = a; b = b; first = refl; second = refl; value = cc }
both_ok f (Ok a) (Err k) v is = absurd (cc)
both_ok f (Err j) (Ok b) v is = absurd (cc)
both_ok f (Err j) (Err k) v is = absurd (cc)

pub record ValueGives {A B : Type 0} (f : A → B) (x : Reading A) (v : B) : Type 0 where
  pub a : A
  pub given : x ≡ Ok a
  pub value : f a ≡ v

pub mapped_ok : {A B : Type 0} (f : A → B) (x : Reading A) (v : B) → mapped f x ≡ Ok v → ValueGives f x v
mapped_ok f (Ok a) v is = record { a = a; given = refl; value = cc }
mapped_ok f (Err k) v is = absurd (cc)

-- two forms in a row
pub record Applied {A B : Type 0} (f : Form (A → B)) (x : Form A) (words : List Word) (v : B) (rest : List Word) : Type 0 where
  pub g : A → B
  pub a : A
  pub mid : List Word
  pub first : Gives f words g mid
  pub second : Gives x mid a rest
  pub value : g a ≡ v

pub apply_ok : {A B : Type 0} (f : Form (A → B)) (x : Form A) (words : List Word) (v : B) (rest : List Word) → Gives (f <*> x) words v rest
    → Applied f x words v rest
apply_ok f x words v rest given =
    let parts = both_ok (λ h w. h w) (f words).0 (x (f words).1).0 v given.value in
    record {
      g = parts.a;
      a = parts.b;
      mid = (f words).1;
      first = record { value = parts.first; left = refl };
      second = record { value = parts.second; left = given.left };
      value = parts.value;
    }

-- a value of a form
pub record Mapped {A B : Type 0} (h : A → B) (x : Form A) (words : List Word) (v : B) (rest : List Word) : Type 0 where
  pub a : A
  pub given : Gives x words a rest
  pub value : h a ≡ v

pub map_ok : {A B : Type 0} (h : A → B) (x : Form A) (words : List Word) (v : B) (rest : List Word) → Gives (h <$> x) words v rest → Mapped h x words v rest
map_ok h x words v rest given =
    let parts = mapped_ok h (x words).0 v given.value in
    record { a = parts.a; given = record { value = parts.given; left = given.left }; value = parts.value }

-- one place
pub record Placed {A : Type 0} (test : Word → Reading A) (words : List Word) (v : A) (rest : List Word) : Type 0 where
  pub word : Word
  pub begins : words ≡ word ∷ rest
  pub passes : test word ≡ Ok v

pub place_ok : {A : Type 0} (test : Word → Reading A) (words : List Word) (v : A) (rest : List Word) → Gives (place test) words v rest
    → Placed test words v rest
place_ok test [] v rest given = absurd (let is = given.value in cc)
place_ok test (w ∷ words) v rest given = record { word = w; begins = ap (λ r. w ∷ r) given.left; passes = given.value }

nothing_ok : (words : List Word) → nothing words ≡ Ok (tt {0}) → words ≡ []
nothing_ok [] is = refl
nothing_ok (w ∷ words) is = absurd (cc)

-- a form of all words
pub whole_ok : {A : Type 0} (form : Form A) (words : List Word) (v : A) → whole form words ≡ Ok v → Gives form words v []
whole_ok form words v is =
    let parts = both_ok (λ w _. w) (form words).0 (nothing (form words).1) v is in
    record { value = parts.first ∙ ap Ok parts.value; left = nothing_ok (form words).1 parts.second }

-- a value of a form of all words
pub whole_mapped : {A B : Type 0} (h : A → B) (form : Form A) (words : List Word) (v : A) → whole form words ≡ Ok v → whole (h <$> form) words ≡ Ok (h v)
whole_mapped h form words v is =
    let given = whole_ok form words v is in
    ap (λ r. both (λ w _. w) (mapped h r) (nothing (form words).1)) given.value ∙ ap (λ ws. both (λ w _. w) (Ok (h v)) (nothing ws)) given.left

-- what isn't read makes nothing

failed_both : {A B : Type 0} (h : A → B) (x : Reading A) (n : Reading (Unit {0})) (k : FaultKind) → both (λ w _. w) x n ≡ Err k
    → both (λ w _. w) (mapped h x) n ≡ Err k
failed_both h (Ok a) (Ok u) k is = absurd (cc)
failed_both h (Ok a) (Err j) k is = ap Err (cc)
failed_both h (Err j) (Ok u) k is = ap Err (cc)
failed_both h (Err i) (Err j) k is = ap Err (cc)

pub whole_failed : {A B : Type 0} (h : A → B) (form : Form A) (words : List Word) (k : FaultKind) → whole form words ≡ Err k → whole (h <$> form) words ≡ Err k
whole_failed h form words k is = failed_both h (form words).0 (nothing (form words).1) k is

pub refused_whole : {A B : Type 0} (h : A → B) (form : Form A) (words : List Word) (e : LineError) → Refused e (whole form words)
    → Refused e (whole (h <$> form) words)
refused_whole h form words (Kind k) is = whole_failed h form words k is
refused_whole h form words Memory is = tt

pub record Tested {A : Type 0} (test : Bool) (r : Reading A) (v : A) : Type 0 where
  pub passed : test ≡ true
  pub given : r ≡ Ok v

-- a test before a reading
pub unless_ok : {A : Type 0} (k : FaultKind) (test : Bool) (r : Reading A) (v : A) → unless_kind k test r ≡ Ok v → Tested test r v
unless_ok k true (Ok a) v is = record { passed = refl; given = is }
unless_ok k true (Err j) v is = absurd (cc)
unless_ok k false (Ok a) v is = absurd (cc)
unless_ok k false (Err j) v is = absurd (cc)

pub or_kind_ok : {A : Type 0} (k : FaultKind) (o : Option A) (v : A) → or_kind k o ≡ Ok v → o ≡ Some v
or_kind_ok k (Some a) v is = ap Some (cc)
or_kind_ok k None v is = absurd (cc)

-- the words that spell a value are read as it, and those that it was read from begin with them
pub record Shown {A : Type 0} (read : List Word → Reading A) (spelt words : List Word) (v : A) : Type 0 where
  pub behind : List Word
  pub begins : words ≡ spelt ++ behind
  pub again : read spelt ≡ Ok v

-- the words that it was read from spell it
pub shown_whole : {A : Type 0} (read : List Word → Reading A) (spelt words : List Word) (v : A) → spelt ≡ words → read words ≡ Ok v → Shown read spelt words v
shown_whole read spelt words v same is = record { behind = []; begins = sym same ∙ sym (append-nil spelt); again = ap read same ∙ is }

-- the same of a value that a function changes
pub shown_mapped : {A B : Type 0} (f : A → B) (read : List Word → Reading A) (spelt words : List Word) (v : A) → Shown read spelt words v
    → Shown (λ ws. mapped f (read ws)) spelt words (f v)
shown_mapped f read spelt words v shown = record { behind = shown.behind; begins = shown.begins; again = ap (mapped f) shown.again }
