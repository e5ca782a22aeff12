-- What a walk over the unfolded tree counts and lists.
use Rattle.std.specs.Prelude.{ℕ, suc, ◌+◌, ◌≤◌, ◌<◌, ◌≡◌, ◌⊎◌, Bool, true, false, List, ◌++◌, Option}
use Rattle.flat_base.specs.declared.limits.TheConstants.{TREE_NODES_MAX}
use Rattle.flat_collect.specs.Forest.{Forest, unfolded, size, height, held}

-- the trees of the keys, with one level more than is allowed
abbrev pub below : (ℕ → List ℕ) → ℕ → List ℕ → Forest
below links levels keys = unfolded links (suc levels) keys

-- the walk counted all nodes and listed all viewports
pub record IsWalked (forest : Forest) (viewport : ℕ → Option ℕ) (levels nodes : ℕ) (viewports : List ℕ) (nodes' : ℕ)
    (viewports' : List ℕ) : Type 0 where
  pub short : height forest ≤ levels
  pub counted : nodes' ≡ nodes + size forest
  pub few : nodes' ≤ TREE_NODES_MAX
  pub listed : viewports' ≡ viewports ++ held viewport forest

-- what the answer of a walk says
abbrev pub Says : Forest → (ℕ → Option ℕ) → ℕ → ℕ → List ℕ → ℕ → List ℕ → Bool → Type 0
Says forest viewport levels nodes viewports nodes' viewports' true =
    IsWalked forest viewport levels nodes viewports nodes' viewports'
Says forest viewport levels nodes viewports nodes' viewports' false =
    (levels < height forest) ⊎ (TREE_NODES_MAX < nodes + size forest)
