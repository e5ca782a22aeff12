-- What the places of a line in the code have read, as forms say it.
use Rattle.std.specs.Prelude.{◌≡◌, ℕ, List, [], ◌∷◌, Option, Some, None, Ok, Err}
use Rattle.std.specs.Borrow.{Bor}
use Rattle.flat_text.specs.Pieces.{is_space}
use Rattle.flat_text.specs.Left.{pieces_left}
use Rattle.flat_places.specs.declared.kinds.FaultKind.{FaultKind}
use Rattle.flat_places.specs.declared.word_cursor.WordCursor.{WordCursor}
use Rattle.flat_places.specs.Forms.{Word, Reading, Form, both, mapped, nothing}

-- the kind, where there is one
abbrev pub reading_of : Option FaultKind → Reading (Unit {0})
reading_of None = Ok tt
reading_of (Some k) = Err k

-- the lowest kind so far
abbrev pub sofar : WordCursor → Reading (Unit {0})
sofar p = reading_of p.fault

-- the reading, and the kinds before it
abbrev pub lower : {A : Type 0} → Reading (Unit {0}) → Reading A → Reading A
lower s r = both (λ _ v. v) s r

-- the value, where no fault was
abbrev pub giving : {A : Type 0} → A → Reading (Unit {0}) → Reading A
giving v s = mapped (λ _. v) s

-- the words that are left
abbrev pub left : WordCursor → List Word
left p = pieces_left is_space p.words

-- the first word was taken, where there was one
abbrev pub TakesWord : List Word → Option (Bor (List ℕ)) → List Word → Type 0
TakesWord old None new = (old ≡ []) × (new ≡ [])
TakesWord old (Some w) new = old ≡ w.now ∷ new

-- the form was read: its words were taken, and the value or the lower kind was kept
pub record Reads {A : Type 0} (form : Form A) (old new : WordCursor) (value : A) : Type 0 where
  pub words : left new ≡ (form (left old)).1
  pub outcome : lower (sofar old) (form (left old)).0 ≡ giving value (sofar new)

-- the value, where no word is left and no fault was
abbrev pub finished : {A : Type 0} → A → WordCursor → Reading A
finished v p = both (λ w _. w) (giving v (sofar p)) (nothing (left p))
