-- Lines read one after another.
use Rattle.std.proofs.Common.{ℕ, ◌+◌, ◌<◌, ◌≤◌, ◌≡◌, refl, sym, ap, ◌∙◌, List, [], ◌∷◌, ◌++◌, length, drop, slice_get, get_or, Some, Result, Ok, Err}
use Rattle.std.proofs.Common.{append_assoc, append-nil}
use Rattle.std.proofs.Math.ListN.{drop_of_length-le}
use Rattle.std.proofs.lemmas.List.{drop_more}
use Rattle.std.proofs.lemmas.Option.{slice_get-get_or}
use Rattle.flat_script.specs.declared.script.ScriptFault.{ScriptFault}
use Rattle.flat_script.specs.declared.script.ScriptError.{ScriptError}
use Rattle.flat_script.specs.declared.script.ScriptError.TheVariants.{Fault, Memory}
use Rattle.flat_extra.specs.declared.split.ExtraLine.{ExtraLine}
use Rattle.flat_extra.specs.Reading.{then_read, all_read}
use Rattle.flat_extra.specs.Readers.{Reads, Takes}
use Rattle.flat_places.specs.declared.kinds.FaultKind.{FaultKind}

-- values read already, before those of a reading
abbrev pub behind : {A : Type 0} → List A → Result (List A) ScriptFault → Result (List A) ScriptFault
behind found (Ok values) = Ok (found ++ values)
behind found (Err fault) = Err fault

at-first : {A : Type 0} (read : Result (List A) ScriptFault) → behind [] read ≡ read
at-first (Ok values) = refl
at-first (Err fault) = refl

pub first_read : {A : Type 0} (read : ℕ → ExtraLine → Result A FaultKind) (lines : List ExtraLine) (found : List A) → found ≡ []
    → behind found (all_read read 0 lines) ≡ all_read read 0 lines
first_read read lines found none = ap (λ fs. behind fs (all_read read 0 lines)) none ∙ at-first (all_read read 0 lines)

one-behind : {A : Type 0} (found : List A) (n : ℕ) (value : A) (later : Result (List A) ScriptFault)
    → behind found (then_read n (Ok value) later) ≡ behind (found ++ value ∷ []) later
one-behind found n value (Ok values) = ap Ok (sym (append_assoc found (value ∷ []) values))
one-behind found n value (Err fault) = refl

next-line : (lines : List ExtraLine) (i : ℕ) (line : ExtraLine) → i < length lines → slice_get lines i ≡ Some line → drop i lines ≡ line ∷ drop (i + 1) lines
next-line lines i line within is =
    let read : Some (get_or lines i line) ≡ Some line = sym (slice_get-get_or lines i line within) ∙ is in
    let same : get_or lines i line ≡ line = cc in
    drop_more lines i line within ∙ ap (λ l. l ∷ drop (i + 1) lines) same

-- one line more
pub more_read : {A : Type 0} (read : ℕ → ExtraLine → Result A FaultKind) (lines : List ExtraLine) (i : ℕ) (line : ExtraLine) (old new : List A)
    (all : Result (List A) ScriptFault) (done : Unit {0}) → i < length lines
    → slice_get lines i ≡ Some line → Takes (Ok done) (read i line) line.number old new → behind old (all_read read i (drop i lines)) ≡ all
    → behind new (all_read read (i + 1) (drop (i + 1) lines)) ≡ all
more_read {A = A} read lines i line old new all done within is takes so_far =
    let here : behind old (then_read line.number (read i line) (all_read read (i + 1) (drop (i + 1) lines))) ≡ all =
    ap (λ ls. behind old (all_read read i ls)) (sym (next-line lines i line within is)) ∙ so_far in
    by_reading (read i line) (all_read read (i + 1) (drop (i + 1) lines)) takes here
  where
    by_reading : (one : Result A FaultKind) (later : Result (List A) ScriptFault) → Takes (Ok done) one line.number old new
        → behind old (then_read line.number one later) ≡ all → behind new later ≡ all
    by_reading (Ok value) later takes here = ap (λ fs. behind fs later) takes ∙ sym (one-behind old line.number value later) ∙ here
    by_reading (Err kind) later takes here = absurd takes

-- a line with a fault
pub refused_read : {A : Type 0} (read : ℕ → ExtraLine → Result A FaultKind) (lines : List ExtraLine) (i : ℕ) (line : ExtraLine) (old new : List A)
    (all : Result (List A) ScriptFault) (error : ScriptError) → i < length lines
    → slice_get lines i ≡ Some line → Takes (Err error) (read i line) line.number old new → behind old (all_read read i (drop i lines)) ≡ all
    → Reads (Err error) all
refused_read {A = A} read lines i line old new all error within is takes so_far =
    let here : behind old (then_read line.number (read i line) (all_read read (i + 1) (drop (i + 1) lines))) ≡ all =
    ap (λ ls. behind old (all_read read i ls)) (sym (next-line lines i line within is)) ∙ so_far in
    by_error error (read i line) (all_read read (i + 1) (drop (i + 1) lines)) takes here
  where
    by_error : (error : ScriptError) (one : Result A FaultKind) (later : Result (List A) ScriptFault) → Takes (Err error) one line.number old new
        → behind old (then_read line.number one later) ≡ all → Reads (Err error) all
    by_error Memory one later takes here = tt
    by_error (Fault fault) (Ok value) later takes here = absurd takes
    by_error (Fault fault) (Err kind) later takes here = sym here ∙ ap Err (sym takes)

-- no line more
pub whole_read : {A : Type 0} (read : ℕ → ExtraLine → Result A FaultKind) (lines : List ExtraLine) (i : ℕ) (found : List A) (all : Result (List A) ScriptFault)
    → length lines ≤ i
    → behind found (all_read read i (drop i lines)) ≡ all → all ≡ Ok found
whole_read read lines i found all end so_far = sym so_far ∙ ap (λ ls. behind found (all_read read i ls)) (drop_of_length-le lines end)
    ∙ ap Ok (append-nil found)
