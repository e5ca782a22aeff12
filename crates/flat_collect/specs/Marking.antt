-- How the keys that are reached are found: what the marks and the list mean.
use Rattle.std.specs.Prelude.{ℕ, ◌<◌, ◌≤◌, ◌≡◌, ◌⊎◌, List, [], ◌∷◌, ◌++◌, length, Some, slice_get}
use Rattle.std.specs.List.{Contains}
use Rattle.flat_graph.specs.Reasons.{links_in}
use Rattle.flat_graph.specs.State.{GraphState, IsKept, IsMarked}
use Rattle.flat_collect.specs.declared.reached_nodes.ReachedNodes.{ReachedNodes}
use Rattle.flat_collect.specs.Sweep.{IsReached, IsStart}

-- no key stands twice
abbrev pub IsOnce : List ℕ → Type 0
IsOnce [] = Unit {0}
IsOnce (key ∷ keys) = (¬ Contains keys key) × IsOnce keys

-- the marks are at the keys of the list, in which each stands once
pub record IsListed (found : ReachedNodes) : Type 0 where
  pub marked : (key : ℕ) → Contains found.keys.items key → IsMarked found.marks.items key
  pub listed : (key : ℕ) → IsMarked found.marks.items key → Contains found.keys.items key
  pub once : IsOnce found.keys.items

-- these keys were put behind those that were found before, where they weren't among them
pub record Adds (added : List ℕ) (old new : ReachedNodes) : Type 0 where
  pub listed : IsListed new
  pub places : length new.marks.items ≡ length old.marks.items
  pub later : List ℕ
  pub behind : new.keys.items ≡ old.keys.items ++ later
  pub kept : (key : ℕ) → IsMarked old.marks.items key → IsMarked new.marks.items key
  pub there : (key : ℕ) → Contains added key → IsMarked new.marks.items key
  pub only : (key : ℕ) → IsMarked new.marks.items key → IsMarked old.marks.items key ⊎ Contains added key

-- All that is found is reached, the starts are found, and so are the children of the first keys of the list, so many
-- of them.
pub record IsFinding (graph : GraphState) (found : ReachedNodes) (done : ℕ) : Type 0 where
  pub listed : IsListed found
  pub covers : (key : ℕ) → IsKept graph.nodes key → key < length found.marks.items
  pub starts : (key : ℕ) → IsStart graph key → IsMarked found.marks.items key
  pub reached : (key : ℕ) → IsMarked found.marks.items key → IsReached graph key
  pub closed : (i key child : ℕ) → i < done → slice_get found.keys.items i ≡ Some key
      → Contains (links_in graph key) child → IsMarked found.marks.items child
  pub within : done ≤ length found.keys.items

-- what is reached is found, and nothing else
pub record AreReached (graph : GraphState) (found : ReachedNodes) : Type 0 where
  pub listed : IsListed found
  pub covers : (key : ℕ) → IsKept graph.nodes key → key < length found.marks.items
  pub marked : (key : ℕ) → IsReached graph key → IsMarked found.marks.items key
  pub reached : (key : ℕ) → IsMarked found.marks.items key → IsReached graph key
