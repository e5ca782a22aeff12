-- What a call that reads takes from a source.
use Rattle.std.specs.Prelude.{◌≡◌, ℕ, ◌<◌, ◌≤◌, List, ◌++◌, Option, take}
use Rattle.flat_io.specs.declared.whole.ReadAll.{ReadAll}
use Rattle.flat_io.specs.declared.whole.ReadAll.TheVariants.{Fault, TooLong, Memory}
use Rattle.flat_io.specs.Told.{WhereTold}

-- Of so many bytes given: too long is more than the limit, and nothing else is.
abbrev pub IsTooLong : ℕ → ℕ → ReadAll → Type 0
IsTooLong limit given TooLong = limit < given
IsTooLong limit given Fault = given ≤ limit
IsTooLong limit given Memory = given ≤ limit

-- Some bytes were given from the front of what was left, and they have this property.
abbrev pub Given : Option (List ℕ) → Option (List ℕ) → (List ℕ → List ℕ → Type 0) → Type 0
Given left left' P = WhereTold left left' (λ before after. (given : List ℕ) × (before ≡ given ++ after) × P given after)

-- a read took so many bytes from the front of what was left, into the front of a buffer
abbrev pub Takes : ℕ → List ℕ → Option (List ℕ) → Option (List ℕ) → Type 0
Takes count buffer left left' = WhereTold left left' (λ before after. before ≡ take count buffer ++ after)
