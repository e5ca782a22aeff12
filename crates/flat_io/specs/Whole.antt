-- what is said of a whole text that is read or written
use Rattle.std.specs.Prelude.{◌≡◌, ℕ, List, ◌++◌, Option, take}
use Rattle.flat_io.specs.Told.{WhereTold}

-- A sink holds what it held before, and then the first bytes of a text.
abbrev pub AppendsPrefix : List ℕ → Option (List ℕ) → Option (List ℕ) → Type 0
AppendsPrefix text held held' = WhereTold held held' (λ before after. (count : ℕ) × (after ≡ before ++ take count text))
