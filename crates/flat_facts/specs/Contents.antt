-- How many contents were made, as far as a count goes.
use Rattle.std.specs.Prelude.{ℕ, ◌-◌, ◌^◌, min}

-- a count that stays at its end, which is beyond every serial of a tree
abbrev pub capped : ℕ → ℕ
capped n = min n (2 ^ 64 - 1)
