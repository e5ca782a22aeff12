-- What a graph keeps when it is swept.
use Rattle.std.specs.Prelude.{ℕ, ◌≡◌, ◌⊎◌, Some}
use Rattle.flat_scene.specs.Cycles.{Walk}
use Rattle.flat_graph.specs.Names.{key_named}
use Rattle.flat_graph.specs.Reasons.{links_in}
use Rattle.flat_graph.specs.State.{GraphState, IsKept, node_at}

module _ (graph : GraphState) where
  -- a key is the root, or an id names it
  abbrev pub IsStart : ℕ → Type 0
  IsStart key = (graph.root ≡ Some key) ⊎ ((id : ℕ) × (key_named graph.names id ≡ Some key))

  -- from child to child a walk leads to a key, from the root or from a key that has a name
  pub record IsReached (key : ℕ) : Type 0 where
    pub start : ℕ
    pub is_start : IsStart start
    pub steps : ℕ
    pub walk : Walk (links_in graph) steps start key

-- What is reached keeps its node, nothing else has one, and all but the nodes is as it was.
pub record IsSwept (old new : GraphState) : Type 0 where
  pub kept : (key : ℕ) → IsReached old key → node_at new key ≡ node_at old key
  pub no_other : (key : ℕ) → IsKept new.nodes key → IsReached old key
  pub rest : new ≡ record old { nodes = new.nodes }
