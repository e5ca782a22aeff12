-- what contracts see of a list that shows its room
use Rattle.std.specs.Prelude.{ℕ, List}

-- the items, and how many more fit without memory
pub record ItemsAndRoom (T : Type 0) : Type 0 where
  pub items : List T
  pub room : ℕ
