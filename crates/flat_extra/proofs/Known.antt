-- The pointers that a text names.
use Rattle.std.proofs.Common.{ℕ, ◌+◌, ◌≡◌, refl, subst, Bool, true, false, List, [], ◌∷◌, length, Option, Some, None, Result, Ok, Err}
use Rattle.std.specs.Prelude.{if◌then◌else◌, nat_lt, unwrap_or, option_and_then, slice_get, IsTrue}
use Rattle.std.specs.List.{list_all}
use Rattle.flat_base.proofs.lemmas.Tests.{and-true}
use Rattle.flat_base.specs.declared.limits.TheConstants.{SCRIPT_BYTES_MAX}
use Rattle.flat_text.specs.Number.{natural}
use Rattle.flat_text.specs.Pieces.{words_of}
use Rattle.flat_places.specs.declared.kinds.FaultKind.{FaultKind}
use Rattle.flat_places.specs.declared.kinds.FaultKind.TheVariants.{TooLong}
use Rattle.flat_places.specs.declared.script.Script.{Script}
use Rattle.flat_script.specs.declared.script.ScriptFault.{ScriptFault}
use Rattle.flat_script.specs.Grammar.{text_read}
use Rattle.flat_pointer.specs.declared.pointers.TheConstants.{POINTERS}
use Rattle.flat_pointer.specs.declared.text.PointerLine.{PointerLine}
use Rattle.flat_extra.specs.declared.split.ExtraLine.{ExtraLine}
use Rattle.flat_extra.specs.declared.split.ExtraSet.TheVariants.{Pointer}
use Rattle.flat_extra.specs.declared.whole.PointerScript.{PointerScript}
use Rattle.flat_extra.specs.Extra.{rest_of, extra_of}
use Rattle.flat_extra.specs.Reading.{failed, pointer_in, pointer_tests, pointer_value, pointer_line, then_read, all_read}
use Rattle.flat_extra.specs.Whole.{and_then, pointers_read}
use Rattle.flat_extra.proofs.Rising.{passed, not-refused, both-read}

-- ---- one line

known-number : (n : ℕ) (known : Bool) → nat_lt n 16 ≡ known → nat_lt (unwrap_or (if known then Some n else None) 0) 16 ≡ true
known-number n true is = is
known-number n false is = refl

known-natural : (read : Option ℕ) → nat_lt (unwrap_or (option_and_then (λ n. if nat_lt n 16 then Some n else None) read) 0) 16 ≡ true
known-natural None = refl
known-natural (Some n) = known-number n (nat_lt n 16) refl

known-word : (word : Option (List ℕ)) → nat_lt (unwrap_or (option_and_then pointer_in word) 0) 16 ≡ true
known-word None = refl
known-word (Some word) = known-natural (natural word)

known-line : (before : ℕ) (line : ExtraLine) (found : PointerLine) → pointer_line before line ≡ Ok found → nat_lt found.pointer 16 ≡ true
known-line before line found is =
    let words : List (List ℕ) = words_of line.text in
    let same : pointer_value line.number words ≡ found = passed (failed (pointer_tests before words)) (pointer_value line.number words) found is in
    subst (λ (l : PointerLine). nat_lt l.pointer 16 ≡ true) same (known-word (slice_get words 2))

-- ---- all lines

-- a test that each value passes
module _ {A : Type 0} (test : A → Bool) (read : ℕ → ExtraLine → Result A FaultKind)
    (each : (before : ℕ) (line : ExtraLine) (found : A) → read before line ≡ Ok found → test found ≡ true) where
  one-read : (n : ℕ) (one : Result A FaultKind) (later : Result (List A) ScriptFault) (values : List A) → ((found : A) → one ≡ Ok found → test found ≡ true)
      → ((rest : List A) → later ≡ Ok rest → list_all test rest ≡ true) → then_read n one later ≡ Ok values → list_all test values ≡ true
  one-read n (Ok value) (Ok rest) values first others is =
      let same : value ∷ rest ≡ values = cc in
      subst (λ (vs : List A). list_all test vs ≡ true) same (and-true (first value refl) (others rest refl))
  one-read n (Ok value) (Err fault) values first others is = absurd (cc)
  one-read n (Err kind) later values first others is = absurd (cc)

  all-values : (before : ℕ) (lines : List ExtraLine) (values : List A) → all_read read before lines ≡ Ok values → list_all test values ≡ true
  all-values before [] values is = let same : [] ≡ values = cc in subst (λ (vs : List A). list_all test vs ≡ true) same refl
  all-values before (line ∷ lines) values is =
      one-read line.number (read before line) (all_read read (before + 1) lines) values (each before line) (all-values (before + 1) lines) is

-- ---- a whole text

pub pointers-known : (bytes : List ℕ) (read : PointerScript) → pointers_read bytes ≡ Ok read
    → IsTrue (list_all (λ line. nat_lt line.pointer POINTERS) read.lines)
pointers-known bytes read is =
    let found : Result (List PointerLine) ScriptFault = all_read pointer_line 0 (extra_of Pointer bytes) in
    let whole : Script → Result PointerScript ScriptFault = λ script. and_then found (λ lines. Ok (record { script = script; lines = lines })) in
    let parts = both-read (text_read (rest_of Pointer bytes)) whole read
    (not-refused (nat_lt SCRIPT_BYTES_MAX (length bytes)) (record { line = 0; kind = TooLong }) (and_then (text_read (rest_of Pointer bytes)) whole) read is) in
    let second : List PointerLine → Result PointerScript ScriptFault = λ ls. Ok (record { script = parts.0; lines = ls }) in
    let lines = both-read found second read parts.2 in
    let same : ◌≡◌ {A = PointerScript} (record { script = parts.0; lines = lines.0 }) read = let ok = lines.2 in cc in
    let known : list_all (λ line. nat_lt line.pointer 16) lines.0 ≡ true =
    all-values (λ (line : PointerLine). nat_lt line.pointer 16) pointer_line known-line 0 (extra_of Pointer bytes) lines.0 lines.1 in
    subst (λ (w : PointerScript). list_all (λ line. nat_lt line.pointer 16) w.lines ≡ true) same known
