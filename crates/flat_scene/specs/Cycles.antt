-- walks along links, and what it is that a place reaches itself
use Rattle.std.specs.Prelude.{ℕ, zero, suc, ◌≡◌, List}
use Rattle.std.specs.List.{Contains}

module _ (links : ℕ → List ℕ) where
  -- a walk of so many steps from one place to another
  abbrev pub Walk : ℕ → ℕ → ℕ → Type 0
  Walk zero from to = from ≡ to
  Walk (suc steps) from to = (next : ℕ) × Contains (links from) next × Walk steps next to

  -- a place that is reached from the start reaches itself
  pub record HasCycle (start : ℕ) : Type 0 where
    pub place : ℕ
    pub before : ℕ
    pub there : Walk before start place
    pub around : ℕ
    pub back : Walk (suc around) place place
