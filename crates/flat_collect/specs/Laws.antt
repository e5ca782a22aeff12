-- The verdict on a graph is the verdict on the draft for which it stands, and a sweep changes neither the draft nor
-- the tree.
use Rattle.std.specs.Prelude.{ℕ, ◌≡◌, [], ◌∷◌, Some, None}
use Rattle.flat_scene.specs.declared.trees.Children.{Children}
use Rattle.flat_scene.specs.Draft.{Draft}
use Rattle.flat_scene.specs.Misuse.{first_reason}
use Rattle.flat_scene.specs.Tree.{tree_tests, all_nodes}
use Rattle.flat_scene.specs.Trees.{node_count}
use Rattle.flat_graph.specs.Reasons.{links_in}
use Rattle.flat_graph.specs.State.{GraphState}
use Rattle.flat_graph.specs.Stands.{StandsFor}
use Rattle.flat_collect.specs.declared.TreeCheck.{TreeCheck}
use Rattle.flat_collect.specs.declared.TreeCheck.TheVariants.{Good, Bad}
use Rattle.flat_collect.specs.Forest.{unfolded}
use Rattle.flat_collect.specs.Judge.{IsJudged, graph_tree}
use Rattle.flat_collect.specs.Sweep.{IsReached, IsSwept}

-- a draft has a tree to present, of so many nodes
pub record Presents (draft : Draft) (nodes : ℕ) : Type 0 where
  pub no_reason : first_reason (tree_tests draft) ≡ None
  pub all : Children
  pub is_all : all_nodes draft ≡ Some all
  pub counted : node_count all ≡ nodes

-- what a verdict says of a draft
abbrev pub IsVerdict : Draft → TreeCheck → Type 0
IsVerdict draft (Good nodes) = Presents draft nodes
IsVerdict draft (Bad reason) = first_reason (tree_tests draft) ≡ Some reason

abbrev pub VerdictStands : Type 0
VerdictStands = (graph : GraphState) (draft : Draft) (verdict : TreeCheck) → StandsFor graph draft
    → IsJudged graph verdict → IsVerdict draft verdict

-- A swept graph stands for each draft for which the graph stood.
-- The tree of the root is as it was, and so is what any key unfolds to that is reached.
pub record IsAsBefore (old new : GraphState) : Type 0 where
  pub stands : (draft : Draft) → StandsFor old draft → StandsFor new draft
  pub tree : graph_tree new ≡ graph_tree old
  pub unfolds : (levels key : ℕ) → IsReached old key
      → unfolded (links_in new) levels (key ∷ []) ≡ unfolded (links_in old) levels (key ∷ [])

abbrev pub SweptStands : Type 0
SweptStands = (old new : GraphState) → IsSwept old new → IsAsBefore old new
