-- What a reader of extra lines promises.
use Rattle.std.specs.Prelude.{◌≡◌, ℕ, List, [], ◌∷◌, ◌++◌, Result, Ok, Err, ◌<◌, length}
use Rattle.flat_places.specs.declared.kinds.FaultKind.{FaultKind}
use Rattle.flat_script.specs.declared.script.ScriptFault.{ScriptFault}
use Rattle.flat_script.specs.declared.script.ScriptError.{ScriptError}
use Rattle.flat_script.specs.declared.script.ScriptError.TheVariants.{Fault, Memory}
use Rattle.flat_base.specs.declared.limits.TheConstants.{SCRIPT_BYTES_MAX}
use Rattle.flat_places.specs.declared.kinds.FaultKind.TheVariants.{TooLong}

-- the answer is the reading, unless memory ran out
abbrev pub Reads : {A : Type 0} → Result A ScriptError → Result A ScriptFault → Type 0
Reads (Ok values) read = read ≡ Ok values
Reads (Err (Fault fault)) read = read ≡ Err fault
Reads (Err Memory) read = Unit {0}

-- one line was read: its value stands behind the others, or its kind was answered
abbrev pub Takes : {A : Type 0} → Result (Unit {0}) ScriptError → Result A FaultKind → ℕ → List A → List A → Type 0
Takes (Ok done) (Ok value) n old new = new ≡ old ++ value ∷ []
Takes (Ok done) (Err kind) n old new = ⊥
Takes (Err (Fault fault)) (Ok value) n old new = ⊥
Takes (Err (Fault fault)) (Err kind) n old new = fault ≡ record { line = n; kind = kind }
Takes (Err Memory) read n old new = Unit {0}

-- an error says that a text is too long, unless memory ran out
abbrev pub IsLong : ScriptError → List ℕ → Type 0
IsLong Memory bytes = Unit {0}
IsLong (Fault fault) bytes = (SCRIPT_BYTES_MAX < length bytes) × (fault ≡ record { line = 0; kind = TooLong })
