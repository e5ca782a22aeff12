-- The script that a text has, or the first line with a fault and its lowest kind.
use Rattle.std.specs.Prelude.{◌≡◌, ℕ, ◌+◌, ◌-◌, ◌==◌, ◌||◌, slice_index, nat_le, nat_lt, Bool, not, ◌&&◌, List, [], ◌∷◌}
use Rattle.std.specs.Prelude.{length, Result, Ok, Err, if◌then◌else◌}
use Rattle.std.specs.List.{list_all}
use Rattle.flat_text.specs.Pieces.{lines_of, words_of}
use Rattle.flat_base.specs.declared.limits.TheConstants.{LINE_BYTES_MAX, SCRIPT_BYTES_MAX}
use Rattle.flat_places.specs.declared.kinds.FaultKind.TheVariants.{TooLong, NotAscii, LongLine, BadHead, BadOrder}
use Rattle.flat_places.specs.declared.script.Script.{Script}
use Rattle.flat_script.specs.declared.script.ScriptFault.{ScriptFault}
use Rattle.flat_forms.specs.declared.lines.TextPart.TheVariants.{Start, Body}
use Rattle.flat_places.specs.Forms.{Reading}
use Rattle.flat_forms.specs.Head.{empty}
use Rattle.flat_forms.specs.Body.{is_open}
use Rattle.flat_forms.specs.Lines.{Sofar, words_read}

-- a byte that a line may have
abbrev pub is_plain : ℕ → Bool
is_plain b = nat_le 32 b && nat_le b 126

-- an empty line, or one that begins with `#`
abbrev pub is_skipped : List ℕ → Bool
is_skipped line = length line == 0 || slice_index line 0 == 35

-- what line n makes of it
abbrev pub line_read : ℕ → Sofar → List ℕ → Reading Sofar
line_read n sofar line =
    if not (list_all is_plain line) then Err NotAscii
    else (if nat_lt LINE_BYTES_MAX (length line) then Err LongLine
    else (if is_skipped line then Ok sofar else words_read n sofar (words_of line)))

-- what the end of the text makes of it, where n is one more than the number of lines
abbrev pub end_read : ℕ → Sofar → Result Script ScriptFault
end_read n (Body, s) = if is_open s then Err (record { line = n; kind = BadOrder }) else Ok (record s { count = n - 1 })
end_read n (_, s) = Err (record { line = n; kind = BadHead })

-- what the lines from number n on make of it: the first fault decides
abbrev pub lines_read : ℕ → Sofar → List (List ℕ) → Result Script ScriptFault
lines_read n sofar [] = end_read n sofar
lines_read n sofar (line ∷ lines) = go_on (line_read n sofar line) n (λ next. lines_read (n + 1) next lines)
  where
    go_on : Reading Sofar → ℕ → (Sofar → Result Script ScriptFault) → Result Script ScriptFault
    go_on (Ok next) n rest = rest next
    go_on (Err k) n rest = Err (record { line = n; kind = k })

-- The script of a text, or its fault; a text that is too long is at fault as a whole. It is the one or the other:
-- so each text
-- has a script or a fault, and none has both.
abbrev pub text_read : List ℕ → Result Script ScriptFault
text_read bytes =
    if nat_lt SCRIPT_BYTES_MAX (length bytes) then Err (record { line = 0; kind = TooLong })
    else lines_read 1 (Start, empty) (lines_of bytes)

-- the text has this script
abbrev pub IsScript : List ℕ → Script → Type 0
IsScript bytes s = text_read bytes ≡ Ok s

-- the first line with a fault is this one, and its lowest kind is this
abbrev pub IsFault : List ℕ → ScriptFault → Type 0
IsFault bytes f = text_read bytes ≡ Err f
