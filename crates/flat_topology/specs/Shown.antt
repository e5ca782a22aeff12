-- What the sessions show at a moment.
use Rattle.std.specs.Prelude.{ℕ, zero, suc, List, [], ◌∷◌, ◌++◌, Option, Some, None, option_map, slice_index_or, Bool}
use Rattle.std.specs.Prelude.{◌==◌}
use Rattle.flat_scene.specs.declared.trees.Children.{Children}
use Rattle.flat_scene.specs.declared.trees.Children.TheVariants.{Empty}
use Rattle.flat_scene.specs.declared.trees.Content.{Content}
use Rattle.flat_scene.specs.declared.trees.Content.TheVariants as content
use Rattle.flat_scene.specs.declared.trees.Node.{Node}
use Rattle.flat_scene.specs.declared.trees.Tree.{Tree}
use Rattle.flat_scene.specs.Trees.{more, fold_nodes}
use Rattle.std.specs.List.{list_any}

-- what each session shows, session 1 first; a session may show nothing
abbrev pub Shown : Type 0
Shown = List (Option Tree)

-- what the session of a number shows; there is no session 0
abbrev pub state_of : Shown → ℕ → Option Tree
state_of shown zero = None
state_of shown (suc before) = slice_index_or shown before None

-- the pair of whose view a state is
abbrev pub view_of : Option Tree → Option ℕ
view_of None = None
view_of (Some tree) = option_map (λ pair. pair.0) tree.view

-- the root alone, as a list of nodes
abbrev pub root_alone : Option Node → Children
root_alone None = Empty
root_alone (Some root) = more root Empty

-- the nodes of a state: its root, if it has one, and what is below it
abbrev pub nodes_of : Option Tree → Children
nodes_of None = Empty
nodes_of (Some tree) = root_alone tree.root

-- the pair of a viewport
abbrev pub pair_in : Option Content → List ℕ
pair_in (Some (content.Viewport serial pair props)) = pair.0 ∷ []
pair_in _ = []

-- the pairs of the nodes' viewports, in preorder
abbrev pub pairs_in : Children → List ℕ
pairs_in = fold_nodes (λ node below after. pair_in node.content ++ below ++ after) []

-- the pairs of the viewports that a session shows
abbrev pub pairs_shown : Shown → ℕ → List ℕ
pairs_shown shown s = pairs_in (nodes_of (state_of shown s))

-- whether a session shows a viewport of a pair
abbrev pub is_shown_by : Shown → ℕ → ℕ → Bool
is_shown_by shown p s = list_any (λ q. q == p) (pairs_shown shown s)
