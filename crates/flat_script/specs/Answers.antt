-- What the reader answers, as readings say it.
use Rattle.std.specs.Prelude.{◌≡◌, ℕ, ◌-◌, Option, None, Some, Result, Ok, Err}
use Rattle.flat_places.specs.declared.kinds.FaultKind.{FaultKind}
use Rattle.flat_places.specs.declared.script.Script.{Script}
use Rattle.flat_script.specs.declared.script.ScriptFault.{ScriptFault}
use Rattle.flat_script.specs.declared.script.ScriptError.{ScriptError}
use Rattle.flat_script.specs.declared.script.ScriptError.TheVariants.{Fault, Memory}

-- an error is the reading's fault, unless memory ran out
abbrev pub Fails : ScriptError → Result Script ScriptFault → Type 0
Fails Memory r = Unit {0}
Fails (Fault f) r = r ≡ Err f

-- the answer is the reading, unless memory ran out
abbrev pub Answers : Result Script ScriptError → Result Script ScriptFault → Type 0
Answers (Ok s) r = r ≡ Ok s
Answers (Err e) r = Fails e r

-- a reading that ends before the line of a number, with this fault or with the script
abbrev pub ends_by : ℕ → Option FaultKind → Script → Result Script ScriptFault
ends_by n None s = Ok (record s { count = n - 1 })
ends_by n (Some kind) s = Err (record { line = n; kind = kind })
