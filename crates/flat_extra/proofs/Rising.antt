-- Pointers' lines come in the order of their numbers.
use Rattle.std.proofs.Common.{ℕ, ◌+◌, ◌<◌, ◌≡◌, refl, sym, ap, ◌∙◌, subst, arith, Bool, true, false, List, [], ◌∷◌, ◌++◌, length, Option, Some, None, Result}
use Rattle.std.proofs.Common.{Ok, Err}
use Rattle.std.specs.Prelude.{if◌then◌else◌, nat_lt, ◌&&◌, ◌||◌}
use Rattle.std.specs.Option.{option_map_or}
use Rattle.std.proofs.lemmas.Bool.Decides.{nat_tests}
use Rattle.flat_base.proofs.lemmas.Tests.{and-true}
use Rattle.flat_base.specs.declared.limits.TheConstants.{SCRIPT_BYTES_MAX}
use Rattle.std.specs.List.{slice_split}
use Rattle.flat_text.specs.Pieces.{is_feed, words_of}
use Rattle.flat_places.specs.declared.kinds.FaultKind.{FaultKind}
use Rattle.flat_places.specs.declared.kinds.FaultKind.TheVariants.{TooLong}
use Rattle.flat_places.specs.declared.script.Script.{Script}
use Rattle.flat_script.specs.declared.script.ScriptFault.{ScriptFault}
use Rattle.flat_script.specs.Grammar.{text_read}
use Rattle.flat_pointer.specs.declared.text.PointerLine.{PointerLine}
use Rattle.flat_pointer.specs.Lines.{rise_after}
use Rattle.flat_extra.specs.declared.split.ExtraLine.{ExtraLine}
use Rattle.flat_extra.specs.declared.split.ExtraSet.{ExtraSet}
use Rattle.flat_focus.specs.declared.text.FocusLine.{FocusLine}
use Rattle.flat_extra.specs.declared.split.ExtraSet.TheVariants.{Focus, Pointer}
use Rattle.flat_extra.specs.declared.whole.FocusScript.{FocusScript}
use Rattle.flat_extra.specs.declared.whole.PointerScript.{PointerScript}
use Rattle.flat_extra.specs.Extra.{is_extra, is_run, if_extra, extra_from, rest_of, extra_of}
use Rattle.flat_extra.specs.Reading.{failed, focus_line, pointer_tests, pointer_value, pointer_line, then_read, all_read}
use Rattle.flat_extra.specs.Whole.{and_then, focus_read, pointers_read}

-- ---- one line

pub passed : {A : Type 0} (fault : Option FaultKind) (value found : A)
    → ◌≡◌ {A = Result A FaultKind} (option_map_or (λ kind. Err kind) fault (Ok value)) (Ok found) → value ≡ found
passed None value found is = cc
passed (Some kind) value found is = absurd (cc)

-- a value has the number of its line
number-of : (before : ℕ) (line : ExtraLine) (found : PointerLine) → pointer_line before line ≡ Ok found → found.number ≡ line.number
number-of before line found is =
    ap (λ (l : PointerLine). l.number) (sym (passed (failed (pointer_tests before (words_of line.text))) (pointer_value line.number (words_of line.text)) found
    is))

-- ---- all lines

-- a line that is read comes after all that stand before it
one-more : (from n : ℕ) (one : Result PointerLine FaultKind) (later : Result (List PointerLine) ScriptFault) (values : List PointerLine) → from < n
    → ((found : PointerLine) → one ≡ Ok found → found.number ≡ n) → ((rest : List PointerLine) → later ≡ Ok rest → rise_after n rest ≡ true)
    → then_read n one later ≡ Ok values → rise_after from values ≡ true
one-more from n (Ok value) (Ok rest) values less first others is =
    let same : value ∷ rest ≡ values = cc in
    let here : value.number ≡ n = first value refl in
    let after : nat_lt from value.number ≡ true = grind (arith, nat_tests) in
    subst (λ (vs : List PointerLine). rise_after from vs ≡ true) same (and-true after (subst (λ m. rise_after m rest ≡ true) (sym here) (others rest refl)))
one-more from n (Ok value) (Err fault) values less first others is = absurd (cc)
one-more from n (Err kind) later values less first others is = absurd (cc)

all-rise : (set : ExtraSet) (begun : Bool) (n before from : ℕ) (lines : List (List ℕ)) (values : List PointerLine) → from < n
    → all_read pointer_line before (extra_from set begun n lines) ≡ Ok values
    → rise_after from values ≡ true
all-rise set begun n before from [] values less is = let same : [] ≡ values = cc in subst (λ (vs : List PointerLine). rise_after from vs ≡ true) same refl
all-rise set begun n before from (line ∷ lines) values less is =
    by (begun && is_extra set line) (λ count last rest earlier ok. all-rise set (begun || is_run line) (n + 1) count last lines rest earlier ok) is
  where
    later : List ExtraLine
    later = extra_from set (begun || is_run line) (n + 1) lines

    by : (b : Bool) → ((count last : ℕ) (rest : List PointerLine) → last < n + 1 → all_read pointer_line count later ≡ Ok rest → rise_after last rest ≡ true)
        → all_read pointer_line before (if_extra b n line ++ later) ≡ Ok values → rise_after from values ≡ true
    by true rises is =
        let x : ExtraLine = record { number = n; text = line } in
        one-more from n (pointer_line before x) (all_read pointer_line (before + 1) later) values less (number-of before x)
        (λ rest ok. rises (before + 1) n rest (omega arith) ok) is
    by false rises is = rises before from values (omega (arith, less)) is

-- ---- a whole text

pub not-refused : {A : Type 0} (refused : Bool) (fault : ScriptFault) (read : Result A ScriptFault) (value : A)
    → (if refused then Err fault else read) ≡ Ok value → read ≡ Ok value
not-refused true fault read value is = absurd (cc)
not-refused false fault read value is = is

pub both-read : {A B : Type 0} (first : Result A ScriptFault) (next : A → Result B ScriptFault) (value : B) → and_then first next ≡ Ok value
    → (a : A) × (first ≡ Ok a) × (next a ≡ Ok value)
both-read (Ok a) next value is = (a, refl, is)
both-read (Err fault) next value is = absurd (cc)

pub pointers-rise : (bytes : List ℕ) (read : PointerScript) → pointers_read bytes ≡ Ok read → rise_after 0 read.lines ≡ true
pointers-rise bytes read is =
    let found : Result (List PointerLine) ScriptFault = all_read pointer_line 0 (extra_of Pointer bytes) in
    let whole : Script → Result PointerScript ScriptFault = λ script. and_then found (λ lines. Ok (record { script = script; lines = lines })) in
    let parts = both-read (text_read (rest_of Pointer bytes)) whole read
    (not-refused (nat_lt SCRIPT_BYTES_MAX (length bytes)) (record { line = 0; kind = TooLong }) (and_then (text_read (rest_of Pointer bytes)) whole) read is) in
    let second : List PointerLine → Result PointerScript ScriptFault = λ ls. Ok (record { script = parts.0; lines = ls }) in
    let lines = both-read found second read parts.2 in
    let same : ◌≡◌ {A = PointerScript} (record { script = parts.0; lines = lines.0 }) read = let ok = lines.2 in cc in
    subst (λ (w : PointerScript). rise_after 0 w.lines ≡ true) same (all-rise Pointer false 1 0 0 (slice_split is_feed bytes) lines.0 (omega arith) lines.1)

-- ---- the rest

pub focus-rest : (bytes : List ℕ) (read : FocusScript) → focus_read bytes ≡ Ok read → text_read (rest_of Focus bytes) ≡ Ok read.script
focus-rest bytes read is =
    let whole : Script → Result FocusScript ScriptFault = λ script. and_then (all_read (focus_line script) 0 (extra_of Focus bytes))
    (λ lines. Ok (record { script = script; lines = lines })) in
    let parts = both-read (text_read (rest_of Focus bytes)) whole read
    (not-refused (nat_lt SCRIPT_BYTES_MAX (length bytes)) (record { line = 0; kind = TooLong }) (and_then (text_read (rest_of Focus bytes)) whole) read is) in
    let second : List FocusLine → Result FocusScript ScriptFault = λ ls. Ok (record { script = parts.0; lines = ls }) in
    let lines = both-read (all_read (focus_line parts.0) 0 (extra_of Focus bytes)) second read parts.2 in
    let same : ◌≡◌ {A = FocusScript} (record { script = parts.0; lines = lines.0 }) read = let ok = lines.2 in cc in
    parts.1 ∙ ap (λ (w : FocusScript). Ok w.script) same

pub pointer-rest : (bytes : List ℕ) (read : PointerScript) → pointers_read bytes ≡ Ok read → text_read (rest_of Pointer bytes) ≡ Ok read.script
pointer-rest bytes read is =
    let found : Result (List PointerLine) ScriptFault = all_read pointer_line 0 (extra_of Pointer bytes) in
    let whole : Script → Result PointerScript ScriptFault = λ script. and_then found (λ lines. Ok (record { script = script; lines = lines })) in
    let parts = both-read (text_read (rest_of Pointer bytes)) whole read
    (not-refused (nat_lt SCRIPT_BYTES_MAX (length bytes)) (record { line = 0; kind = TooLong }) (and_then (text_read (rest_of Pointer bytes)) whole) read is) in
    let second : List PointerLine → Result PointerScript ScriptFault = λ ls. Ok (record { script = parts.0; lines = ls }) in
    let lines = both-read found second read parts.2 in
    let same : ◌≡◌ {A = PointerScript} (record { script = parts.0; lines = lines.0 }) read = let ok = lines.2 in cc in
    parts.1 ∙ ap (λ (w : PointerScript). Ok w.script) same
