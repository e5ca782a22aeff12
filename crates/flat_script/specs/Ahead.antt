-- What is known of lines of the body before they are read in turn.
use Rattle.std.specs.Prelude.{◌≡◌, ℕ, ◌<◌, Bool, true, false, List, [], ◌∷◌, ◌++◌, Result, Ok, Err}
use Rattle.std.specs.Borrow.{Bor}
use Rattle.std.specs.declared.collections.VecDeque.{VecDeque}
use Rattle.flat_base.specs.declared.ids.Actor.{Actor}
use Rattle.flat_text.specs.Pieces.{lines_of}
use Rattle.flat_scene.specs.declared.script.LineBody.{LineBody}
use Rattle.flat_scene.specs.declared.script.ScriptLine.{ScriptLine}
use Rattle.flat_places.specs.declared.script.Script.{Script}
use Rattle.flat_places.specs.Forms.{mapped}
use Rattle.flat_places.specs.Slots.{IsCounted}
use Rattle.flat_forms.specs.declared.lines.TextPart.{TextPart}
use Rattle.flat_forms.specs.declared.lines.TextPart.TheVariants as part
use Rattle.flat_forms.specs.declared.parser.Parser.{Parser}
use Rattle.flat_forms.specs.Ahead.{taken_line, with_lines}
use Rattle.flat_forms.specs.Lines.{Sofar}
use Rattle.flat_forms.specs.Progress.{Kept}
use Rattle.flat_script.specs.declared.ahead.Ahead.{Ahead}
use Rattle.flat_script.specs.declared.ahead.Ahead.TheVariants.{Skipped, Said, Unknown}
use Rattle.flat_script.specs.declared.script.ScriptError.{ScriptError}
use Rattle.flat_script.specs.Answers.{Fails}
use Rattle.flat_script.specs.Grammar.{line_read, lines_read}

-- A line behind this head is this actor's and says this, whatever lines stand before it.
pub record IsSaidBehind (head : Script) (line : List ℕ) (a : Actor) (b : LineBody) : Type 0 where
  pub counted : IsCounted a
  pub reads : (n : ℕ) (lines : List ScriptLine) → line_read n (part.Body, with_lines head lines) line
      ≡ mapped (λ t. (part.Body, t)) (taken_line (with_lines head lines) n a b)

-- what is known of a line behind this head holds, whatever lines stand before it
abbrev pub IsAhead : Script → Ahead → List ℕ → Type 0
IsAhead head Skipped line = (n : ℕ) (sofar : Sofar) → line_read n sofar line ≡ Ok sofar
IsAhead head (Said a b) line = IsSaidBehind head line a b
IsAhead head Unknown line = Unit {0}

-- the same of the first of some lines, as many as something is known of
abbrev pub AreAhead : Script → List Ahead → List (List ℕ) → Type 0
AreAhead head [] lines = Unit {0}
AreAhead head (known ∷ more) [] = Unit {0}
AreAhead head (known ∷ more) (line ∷ lines) = IsAhead head known line × AreAhead head more lines

-- a piece of a text, as it lies there
abbrev pub Piece : Type 0
Piece = Bor (List ℕ)

-- the same of the lines of the first of some pieces
abbrev pub AreAheadIn : {Z : Type 0} → Script → List (VecDeque Ahead Z) → List Piece → Type 0
AreAheadIn head [] pieces = Unit {0}
AreAheadIn head (known ∷ more) [] = Unit {0}
AreAheadIn head (known ∷ more) (piece ∷ pieces) =
    AreAhead head known.items (lines_of piece.now) × AreAheadIn head more pieces

-- the lines of pieces, one piece behind the other
abbrev pub lines_in : List Piece → List (List ℕ)
lines_in [] = []
lines_in (piece ∷ pieces) = lines_of piece.now ++ lines_in pieces

-- Some lines were read from line n on: what they and all later ones make of it, the later ones make of what was read.
abbrev pub ReadsOn : List (List ℕ) → ℕ → Sofar → Result ℕ ScriptError → Sofar → Type 0
ReadsOn lines n old (Ok m) new = (later : List (List ℕ)) → lines_read n old (lines ++ later) ≡ lines_read m new later
ReadsOn lines n old (Err error) new = (later : List (List ℕ)) → Fails error (lines_read n old (lines ++ later))

-- A parser stands before line n: its counts are those of its script, and of frames there are fewer.
pub record StandsBefore (n : ℕ) (p : Parser) : Type 0 where
  pub kept : Kept p
  pub begins : p.begins < n
  pub dones : p.dones < n

-- the next line is one of the body
abbrev pub is_body : TextPart → Bool
is_body part.Body = true
is_body _ = false
