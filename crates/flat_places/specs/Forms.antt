-- Forms of a line: what its words give, place by place.
--
-- A reading is a value, or the lowest kind of fault. A form takes words from the front, as many as it has
-- places; every place is tested, whatever the ones before it gave.
use Rattle.std.specs.Prelude.{ℕ, Bool, List, [], ◌∷◌, Option, Some, None, Result, Ok, Err, filter, if◌then◌else◌}
use Rattle.std.specs.Str.{bytes_eq}
use Rattle.flat_places.specs.declared.kinds.FaultKind.{FaultKind}
use Rattle.flat_places.specs.declared.kinds.FaultKind.TheVariants.{WrongCount}
use Rattle.flat_places.specs.Kinds.{lower_kind}
use Rattle.flat_places.specs.Known.{knows}

-- a word of a line, as its bytes
abbrev pub Word : Type 0
Word = List ℕ

-- a value, or the lowest kind of fault
abbrev pub Reading : Type 0 → Type 0
Reading A = Result A FaultKind

-- both values, or the lower kind
abbrev pub both : {A B C : Type 0} → (A → B → C) → Reading A → Reading B → Reading C
both f (Ok a) (Ok b) = Ok (f a b)
both f (Ok a) (Err k) = Err k
both f (Err j) (Ok b) = Err j
both f (Err j) (Err k) = Err (lower_kind j k)

-- the value changed by a function
abbrev pub mapped : {A B : Type 0} → (A → B) → Reading A → Reading B
mapped f (Ok a) = Ok (f a)
mapped f (Err k) = Err k

-- the value, or else the kind
abbrev pub or_kind : {A : Type 0} → FaultKind → Option A → Reading A
or_kind k (Some a) = Ok a
or_kind k None = Err k

-- a test with its kind of fault
abbrev pub passes : FaultKind → Bool → Reading (Unit {0})
passes k test = if test then Ok tt else Err k

-- the reading, and the kind too unless the test passes
abbrev pub unless_kind : {A : Type 0} → FaultKind → Bool → Reading A → Reading A
unless_kind k test r = both (λ _ a. a) (passes k test) r

-- what the first of some words give, and the words behind them
abbrev pub Form : Type 0 → Type 0
Form A = List Word → Reading A × List Word

-- a value without a place
abbrev pub give : {A : Type 0} → A → Form A
give a words = (Ok a, words)

-- one word, tested; a missing word is a fault of its own
abbrev pub place : {A : Type 0} → (Word → Reading A) → Form A
place test [] = (Err WrongCount, [])
place test (w ∷ words) = (test w, words)

-- the places of one form, then those of the other
infixl 40 ◌<*>◌
abbrev pub ◌<*>◌ : {A B : Type 0} → Form (A → B) → Form A → Form B
(f <*> x) words = let g = f words in let a = x g.1 in (both (λ h v. h v) g.0 a.0, a.1)

-- a value of places
infixl 40 ◌<$>◌
abbrev pub ◌<$>◌ : {A B : Type 0} → (A → B) → Form A → Form B
(h <$> x) words = let a = x words in (mapped h a.0, a.1)

-- no word is left
abbrev pub nothing : List Word → Reading (Unit {0})
nothing [] = Ok tt
nothing (w ∷ words) = Err WrongCount

-- a form that takes all of the words
abbrev pub whole : {A : Type 0} → Form A → List Word → Reading A
whole form words = let a = form words in both (λ v _. v) a.0 (nothing a.1)

-- a form that may be left out
abbrev pub optional : {A : Type 0} → Form A → Form (Option A)
optional form [] = (Ok None, [])
optional form (w ∷ words) = (Some <$> form) (w ∷ words)

-- each word tested
abbrev pub each : {A : Type 0} → (Word → Reading A) → List Word → Reading (List A)
each test [] = Ok []
each test (w ∷ words) = both (λ a rest. a ∷ rest) (test w) (each test words)

-- the same, and there has to be a word
abbrev pub one_or_more : {A : Type 0} → (Word → Reading A) → List Word → Reading (List A)
one_or_more test [] = Err WrongCount
one_or_more test (w ∷ words) = each test (w ∷ words)

-- a table: words, and what each of them says of the words behind it
abbrev pub Table : Type 0 → Type 0
Table A = List (Word × (List Word → Reading A))

-- what the table says of a word and the words behind it; the kind where the table doesn't have the word
abbrev pub at_word : {A : Type 0} → FaultKind → Table A → Word → List Word → Reading A
at_word k [] w words = Err k
at_word k (row ∷ rows) w words = if bytes_eq w row.0 then row.1 words else at_word k rows w words

-- the rows whose words that version knows
abbrev pub known_rows : {A : Type 0} → ℕ → Table A → Table A
known_rows version table = filter (λ row. knows version row.0) table

-- what the known rows say of the first word and those behind it; a missing word is one that the table doesn't have
abbrev pub named : {A : Type 0} → ℕ → FaultKind → Table A → List Word → Reading A
named version k table [] = Err k
named version k table (w ∷ words) = at_word k (known_rows version table) w words
