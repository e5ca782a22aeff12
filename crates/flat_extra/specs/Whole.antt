-- A text with extra lines: its script and the values of those lines, or its fault.
use Rattle.std.specs.Prelude.{ℕ, nat_lt, if◌then◌else◌, List, length, Result, Ok, Err}
use Rattle.flat_base.specs.declared.limits.TheConstants.{SCRIPT_BYTES_MAX}
use Rattle.flat_places.specs.declared.kinds.FaultKind.TheVariants.{TooLong}
use Rattle.flat_script.specs.declared.script.ScriptFault.{ScriptFault}
use Rattle.flat_script.specs.Grammar.{text_read}
use Rattle.flat_extra.specs.declared.split.ExtraLine.{ExtraLine}
use Rattle.flat_extra.specs.declared.split.ExtraSet.TheVariants.{Focus, Pointer}
use Rattle.flat_extra.specs.declared.whole.FocusScript.{FocusScript}
use Rattle.flat_extra.specs.declared.whole.PointerScript.{PointerScript}
use Rattle.flat_extra.specs.Extra.{rest_of, extra_of}
use Rattle.flat_extra.specs.Reading.{focus_line, pointer_line, all_read}

-- ---- one reading after another: the first fault decides

abbrev pub and_then : {A B : Type 0} → Result A ScriptFault → (A → Result B ScriptFault) → Result B ScriptFault
and_then (Ok value) next = next value
and_then (Err fault) next = Err fault

-- a text that is too long is at fault as a whole
abbrev pub unless_long : {A : Type 0} → List ℕ → Result A ScriptFault → Result A ScriptFault
unless_long bytes read =
    if nat_lt SCRIPT_BYTES_MAX (length bytes) then Err (record { line = 0; kind = TooLong }) else read

-- ---- both sets: the script of a text without its extra lines, and then what is read of these

abbrev pub focus_of : List ℕ → List ExtraLine → Result FocusScript ScriptFault
focus_of rest extra =
    and_then (text_read rest) (λ script. and_then (all_read (focus_line script) 0 extra)
    (λ lines. Ok (record { script = script; lines = lines })))

abbrev pub focus_read : List ℕ → Result FocusScript ScriptFault
focus_read bytes = unless_long bytes (focus_of (rest_of Focus bytes) (extra_of Focus bytes))

abbrev pub pointers_of : List ℕ → List ExtraLine → Result PointerScript ScriptFault
pointers_of rest extra =
    and_then (text_read rest) (λ script. and_then (all_read pointer_line 0 extra)
    (λ lines. Ok (record { script = script; lines = lines })))

abbrev pub pointers_read : List ℕ → Result PointerScript ScriptFault
pointers_read bytes = unless_long bytes (pointers_of (rest_of Pointer bytes) (extra_of Pointer bytes))
