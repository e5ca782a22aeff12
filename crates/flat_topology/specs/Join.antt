-- The trees of the connected sessions, joined into one.
use Rattle.std.specs.Prelude.{ℕ, zero, suc, ◌+◌, Bool, false, ◌==◌, if◌then◌else◌, List, [], ◌∷◌, ◌++◌, length, Option}
use Rattle.std.specs.Prelude.{Some, None}
use Rattle.std.specs.List.{list_any}
use Rattle.flat_scene.specs.declared.setup.Setup.{Setup}
use Rattle.flat_scene.specs.declared.trees.Children.{Children}
use Rattle.flat_scene.specs.declared.trees.Content.{Content}
use Rattle.flat_scene.specs.declared.trees.Content.TheVariants as content
use Rattle.flat_scene.specs.declared.trees.Node.{Node}
use Rattle.flat_scene.specs.Trees.{fold_nodes}
use Rattle.flat_topology.specs.Shown.{Shown, nodes_of, view_of}
use Rattle.flat_topology.specs.Pairs.{display_pair}

-- Nodes of several sessions. A node has its session, its fields, the child view below its viewport, its children, and
-- the nodes after it.
-- A child view has its session and that session's root.
pub data JoinedTree : Type 0 where
  nothing : JoinedTree
  node : (session : ℕ) (fields : Node) (linked : JoinedTree) (below : JoinedTree) (after : JoinedTree) → JoinedTree
  child_view : (session : ℕ) (root : JoinedTree) → JoinedTree

-- a session with its nodes
pub record Viewer : Type 0 where
  pub session : ℕ
  pub nodes : Children

-- whether a view is that of a pair
abbrev pub is_view_of : ℕ → Option ℕ → Bool
is_view_of p None = false
is_view_of p (Some q) = q == p

-- who shows the view of a pair, where the states begin with this session's
abbrev pub viewer_from : ℕ → Shown → ℕ → Option Viewer
viewer_from s [] p = None
viewer_from s (state ∷ states) p =
    if is_view_of p (view_of state) then Some (record { session = s; nodes = nodes_of state })
    else viewer_from (s + 1) states p

-- below a viewport stands what its pair leads to; below another content nothing does
abbrev pub linked_to : (ℕ → JoinedTree) → Option Content → JoinedTree
linked_to led (Some (content.Viewport serial pair props)) = led pair.0
linked_to led _ = nothing

-- the nodes of a session, each viewport with what its pair leads to
abbrev pub joined_nodes : (ℕ → JoinedTree) → ℕ → Children → JoinedTree
joined_nodes led s = fold_nodes (λ fields below after. node s fields (linked_to led fields.content) below after) nothing

-- the view of who shows it, if somebody does
abbrev pub viewed : (ℕ → JoinedTree) → Option Viewer → JoinedTree
viewed led None = nothing
viewed led (Some viewer) = child_view viewer.session (joined_nodes led viewer.session viewer.nodes)

-- what a pair leads to, with at most so many views one below another
abbrev pub led_to : Shown → ℕ → ℕ → JoinedTree
led_to shown zero p = nothing
led_to shown (suc views) p = viewed (led_to shown views) (viewer_from 1 shown p)

-- what a pair leads to, if there is a pair: no more views are one below another than there are sessions
abbrev pub led_from : Shown → Option ℕ → JoinedTree
led_from shown None = nothing
led_from shown (Some p) = led_to shown (length shown) p

-- the joined tree: what the display's pair leads to
abbrev pub join : Setup → Shown → JoinedTree
join setup shown = led_from shown (display_pair setup)

-- the sessions of a joined tree, in preorder of their views
abbrev pub sessions_in : JoinedTree → List ℕ
sessions_in nothing = []
sessions_in (node s fields linked below after) = sessions_in linked ++ (sessions_in below ++ sessions_in after)
sessions_in (child_view s root) = s ∷ sessions_in root

-- the sessions in the joined tree
abbrev pub joined_sessions : Setup → Shown → List ℕ
joined_sessions setup shown = sessions_in (join setup shown)

-- whether a session is in the joined tree, which is whether it is connected
abbrev pub is_joined : Setup → Shown → ℕ → Bool
is_joined setup shown s = list_any (λ other. other == s) (joined_sessions setup shown)
