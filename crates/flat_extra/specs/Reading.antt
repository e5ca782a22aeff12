-- Extra lines read as values: each line's value, or the lowest kind of its faults; the first line with a fault decides.
use Rattle.std.specs.Prelude.{ℕ, ◌+◌, ◌==◌, ℤ, pos, nat_lt, Bool, false, not, ◌&&◌, ◌||◌, if◌then◌else◌, List, [], ◌∷◌}
use Rattle.std.specs.Prelude.{length, Option, Some, None, is_some, option_and_then, unwrap_or, slice_get, codes, Result}
use Rattle.std.specs.Prelude.{Ok, Err}
use Rattle.std.specs.Option.{option_map_or}
use Rattle.std.specs.Str.{bytes_eq}
use Rattle.flat_base.specs.declared.ids.SessionNo.{SessionNo}
use Rattle.flat_text.specs.Number.{natural, signed}
use Rattle.flat_text.specs.Pieces.{words_of}
use Rattle.flat_places.specs.declared.kinds.FaultKind.{FaultKind}
use Rattle.flat_places.specs.declared.kinds.FaultKind.TheVariants.{UnknownActor, BadNumber, WrongCount, UnknownName}
use Rattle.flat_places.specs.declared.kinds.FaultKind.TheVariants.{Limit}
use Rattle.flat_places.specs.declared.script.Script.{Script}
use Rattle.flat_script.specs.declared.script.ScriptFault.{ScriptFault}
use Rattle.flat_places.specs.Names.{session_named}
use Rattle.flat_places.specs.Places.{fits_i32}
use Rattle.flat_focus.specs.declared.text.FocusLine.{FocusLine}
use Rattle.flat_pointer.specs.declared.text.PointerCall.{PointerCall}
use Rattle.flat_pointer.specs.declared.text.PointerCall.TheVariants.{Down, Move, Up}
use Rattle.flat_pointer.specs.declared.text.PointerLine.{PointerLine}
use Rattle.flat_pointer.specs.declared.pointers.TheConstants.{POINTERS}
use Rattle.flat_extra.specs.declared.reading.TheConstants.{EXTRA_LINES_MAX}
use Rattle.flat_extra.specs.declared.split.ExtraLine.{ExtraLine}

-- ---- tests and their kinds

-- the first kind whose test fails
abbrev pub failed : List (FaultKind × Bool) → Option FaultKind
failed [] = None
failed ((kind, passes) ∷ later) = if passes then failed later else Some kind

-- a value, or the first kind whose test fails
abbrev pub tested : {A : Type 0} → List (FaultKind × Bool) → A → Result A FaultKind
tested tests value = option_map_or (λ kind. Err kind) (failed tests) (Ok value)

-- fewer than 65,536 extra lines stand before
abbrev pub has_room : ℕ → Bool
has_room before = nat_lt before EXTRA_LINES_MAX

-- ---- focus: `A Focus B`

-- the session that a word names, if the word is there
abbrev pub session_at : Script → List (List ℕ) → ℕ → Option SessionNo
session_at script words i = option_and_then (session_named script) (slice_get words i)

abbrev pub nobody : SessionNo
nobody = record { 0 = 0 }

-- the tests of a line that so many stand before: the first word is a session, there are three, the third is a session
abbrev pub focus_tests : Script → ℕ → List (List ℕ) → List (FaultKind × Bool)
focus_tests script before words =
    (UnknownActor, is_some (session_at script words 0)) ∷ (WrongCount, length words == 3)
    ∷ (UnknownName, is_some (session_at script words 2)) ∷ (Limit, has_room before) ∷ []

abbrev pub focus_value : Script → ℕ → List (List ℕ) → FocusLine
focus_value script number words = record {
  number = number;
  by = unwrap_or (session_at script words 0) nobody;
  of = unwrap_or (session_at script words 2) nobody;
}

abbrev pub focus_line : Script → ℕ → ExtraLine → Result FocusLine FaultKind
focus_line script before line =
    tested (focus_tests script before (words_of line.text)) (focus_value script line.number (words_of line.text))

-- ---- pointers: `display Down P X Y`, `display Move P X Y`, `display Up P`

-- the pointer that a word names, if the word is there
abbrev pub pointer_in : List ℕ → Option ℕ
pointer_in word = option_and_then (λ n. if nat_lt n POINTERS then Some n else None) (natural word)

abbrev pub pointer_at : List (List ℕ) → Option ℕ
pointer_at words = option_and_then pointer_in (slice_get words 2)

-- the number of units that a word spells, if it is there
abbrev pub units_in : List ℕ → Option ℤ
units_in word = option_and_then (λ n. if fits_i32 n then Some n else None) (signed word)

abbrev pub units_at : List (List ℕ) → ℕ → Option ℤ
units_at words i = option_and_then units_in (slice_get words i)

-- whether a word isn't there, or is a number of its range
abbrev pub may_be : {A : Type 0} → Option A → List (List ℕ) → ℕ → Bool
may_be value words i = is_some value || not (is_some (slice_get words i))

-- whether the word of a place is that one
abbrev pub is_word_at : List ℕ → List (List ℕ) → ℕ → Bool
is_word_at text words i = option_map_or (λ word. bytes_eq word text) (slice_get words i) false

-- whether the second word is that one
abbrev pub is_second : List ℕ → List (List ℕ) → Bool
is_second call words = is_word_at call words 1

-- whether all number words are of their ranges; an Up has no point
abbrev pub has_numbers : List (List ℕ) → Bool
has_numbers words = may_be (pointer_at words) words 2
    && (is_second (codes "Up") words || (may_be (units_at words 3) words 3 && may_be (units_at words 4) words 4))

abbrev pub word_count : List (List ℕ) → ℕ
word_count words = if is_second (codes "Up") words then 3 else 5

abbrev pub pointer_tests : ℕ → List (List ℕ) → List (FaultKind × Bool)
pointer_tests before words =
    (UnknownActor, is_word_at (codes "display") words 0) ∷ (BadNumber, has_numbers words)
    ∷ (WrongCount, length words == word_count words) ∷ (Limit, has_room before) ∷ []

abbrev pub pointer_call : List (List ℕ) → PointerCall
pointer_call words =
    if is_second (codes "Up") words then Up
    else (if is_second (codes "Down") words
    then Down (unwrap_or (units_at words 3) (pos 0)) (unwrap_or (units_at words 4) (pos 0))
    else Move (unwrap_or (units_at words 3) (pos 0)) (unwrap_or (units_at words 4) (pos 0)))

abbrev pub pointer_value : ℕ → List (List ℕ) → PointerLine
pointer_value number words =
    record { number = number; pointer = unwrap_or (pointer_at words) 0; call = pointer_call words }

abbrev pub pointer_line : ℕ → ExtraLine → Result PointerLine FaultKind
pointer_line before line =
    tested (pointer_tests before (words_of line.text)) (pointer_value line.number (words_of line.text))

-- ---- all lines

-- the values of lines, where this is the first one's and those are the later ones'
abbrev pub then_read : {A : Type 0} → ℕ → Result A FaultKind → Result (List A) ScriptFault → Result (List A) ScriptFault
then_read n (Err kind) later = Err (record { line = n; kind = kind })
then_read n (Ok value) (Ok values) = Ok (value ∷ values)
then_read n (Ok value) (Err fault) = Err fault

-- the values of the lines that so many stand before
abbrev pub all_read : {A : Type 0} → (ℕ → ExtraLine → Result A FaultKind) → ℕ → List ExtraLine
    → Result (List A) ScriptFault
all_read read before [] = Ok []
all_read read before (line ∷ lines) = then_read line.number (read before line) (all_read read (before + 1) lines)
