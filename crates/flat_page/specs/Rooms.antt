-- Digits, and what is written at a place of bytes that have room there.
use Rattle.std.specs.Prelude.{◌≡◌, ◌≤◌, ℕ, ◌+◌, ℤ, pos, negsuc}
use Rattle.std.specs.Prelude.{List, [], ◌∷◌, ◌++◌, length, take}

-- so many bytes have room from a place on
abbrev pub HasRoom : ℕ → List ℕ → ℕ → Type 0
HasRoom more bytes at = at + more ≤ length bytes

-- What is written stands behind what was there before a place, up to the next place.
pub record Fills (written old : List ℕ) (at : ℕ) (new : List ℕ) (next : ℕ) : Type 0 where
  pub text : take next new ≡ take at old ++ written
  pub place : next ≡ at + length written
  pub long : length new ≡ length old

-- what stands before the digits of a number
abbrev pub sign : ℤ → List ℕ
sign (pos n) = []
sign (negsuc n) = 45 ∷ []
