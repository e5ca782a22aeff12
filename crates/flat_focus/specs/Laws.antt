-- What a focus chain is, whatever happened.
use Rattle.std.specs.Prelude.{◌≡◌, ℕ, Bool, true, false, ◌&&◌, ◌==◌, IsTrue, List, [], ◌∷◌, ◌++◌, map, Option, Some}
use Rattle.std.specs.Prelude.{None}
use Rattle.std.specs.List.{list_all, list_any}
use Rattle.flat_base.specs.declared.ids.SessionNo.{SessionNo}
use Rattle.flat_scene.specs.declared.frames.FrameOut.{FrameOut}
use Rattle.flat_scene.specs.declared.frames.ViewNode.{ViewNode}
use Rattle.flat_scene.specs.ViewTrees.{is_node}
use Rattle.flat_scene.specs.ViewShapes.{is_tree}
use Rattle.flat_page.specs.Happenings.{Happening, merged}
use Rattle.flat_page.specs.Steps.{after_all, without_items}
use Rattle.flat_places.specs.Forms.{Word}
use Rattle.flat_focus.specs.declared.text.FocusLine.{FocusLine}
use Rattle.flat_focus.specs.Chains.{Focusing, root_of, path_to, is_granted}
use Rattle.flat_focus.specs.Steps.{unfocused, framed, asked}
use Rattle.flat_focus.specs.Events.{FocusEvent, frame, ask, nodes_after, chain_after}
use Rattle.flat_focus.specs.Text.{event_of, focus_text}

-- ---- the calls

-- what is kept after the calls for some events
abbrev pub kept_after : ℕ → List FocusEvent → Focusing
kept_after sessions [] = unfocused sessions
kept_after sessions (frame nodes ∷ before) = framed nodes (kept_after sessions before)
kept_after sessions (ask by of ∷ before) = asked by of (kept_after sessions before)

-- the calls keep the nodes of the last frame, and the chain
abbrev pub CallsFollow : Type 0
CallsFollow = (sessions : ℕ) (events : List FocusEvent)
    → kept_after sessions events ≡ record {
      sessions = sessions;
      nodes = nodes_after events;
      chain = chain_after events;
    }

-- ---- paths

abbrev pub same_session : Option SessionNo → Option SessionNo → Bool
same_session None None = true
same_session (Some a) (Some b) = a.0 == b.0
same_session None (Some b) = false
same_session (Some a) None = false

-- whether a session is a node with this parent
abbrev pub is_child : List ViewNode → Option SessionNo → SessionNo → Bool
is_child nodes above s = list_any (λ node. node.session.0 == s.0 && same_session node.parent above) nodes

-- whether each session is a node whose parent is the one before it, and the first one's this
abbrev pub is_path_below : List ViewNode → Option SessionNo → List SessionNo → Bool
is_path_below nodes above [] = true
is_path_below nodes above (s ∷ later) = is_child nodes above s && is_path_below nodes (Some s) later

-- whether they are a path from the root
abbrev pub is_path : List ViewNode → List SessionNo → Bool
is_path nodes path = is_path_below nodes None path

abbrev pub first_of : List SessionNo → Option SessionNo
first_of [] = None
first_of (s ∷ later) = Some s

-- the last session of a list, or this one where it is empty
abbrev pub last_of : Option SessionNo → List SessionNo → Option SessionNo
last_of above [] = above
last_of above (s ∷ later) = last_of (Some s) later

-- A path from the root to a session: each one's parent is the one before it.
pub record LeadsTo (nodes : List ViewNode) (s : SessionNo) (way : List SessionNo) : Type 0 where
  pub path : IsTrue (is_path nodes way)
  pub root : first_of way ≡ root_of nodes
  pub end : last_of None way ≡ Some s

-- in a view tree there is such a path to each node
abbrev pub PathsLead : Type 0
PathsLead = (nodes : List ViewNode) (s : SessionNo) → IsTrue (is_tree nodes) → IsTrue (is_node nodes s)
    → LeadsTo nodes s (path_to nodes s)

-- and no other
abbrev pub PathsAreOne : Type 0
PathsAreOne = (nodes : List ViewNode) (s : SessionNo) (path : List SessionNo) → IsTrue (is_tree nodes)
    → IsTrue (is_path nodes path) → last_of None path ≡ Some s → path ≡ path_to nodes s

-- ---- chains

-- whether all frames have view trees
abbrev pub are_trees : List FocusEvent → Bool
are_trees [] = true
are_trees (frame nodes ∷ before) = is_tree nodes && are_trees before
are_trees (ask by of ∷ before) = are_trees before

-- A path from the root, which is empty only where there is no root.
pub record IsChain (nodes : List ViewNode) (chain : List SessionNo) : Type 0 where
  pub path : IsTrue (is_path nodes chain)
  pub root : first_of chain ≡ root_of nodes

abbrev pub ChainsArePaths : Type 0
ChainsArePaths = (events : List FocusEvent) → IsTrue (are_trees events)
    → IsChain (nodes_after events) (chain_after events)

-- the events of what happens in a text, the newest first
abbrev pub events_of : List (Happening FocusLine) → List FocusEvent
events_of happenings = after_all (λ one before. event_of one ∷ before) happenings []

-- so in a text whose frames have view trees, wherever it stands
abbrev pub ChainsInTexts : Type 0
ChainsInTexts = (dones : List ℕ) (frames : List FrameOut) (lines : List FocusLine)
    → IsTrue (list_all (λ out. is_tree out.tree.nodes) frames)
    → (early late : List (Happening FocusLine)) → merged (λ line. line.number) dones frames lines ≡ early ++ late
    → IsChain (nodes_after (events_of early)) (chain_after (events_of early))

-- a text hangs on the numbers and the view trees of its frames alone: draw items play no part
abbrev pub ItemsPlayNoPart : Type 0
ItemsPlayNoPart = (names : List Word) (dones : List ℕ) (frames : List FrameOut) (lines : List FocusLine)
    → focus_text names dones (map without_items frames) lines ≡ focus_text names dones frames lines

-- the focus is given by a node to a node
abbrev pub NodesGive : Type 0
NodesGive = (nodes : List ViewNode) (by of : SessionNo) → IsTrue (is_granted nodes by of)
    → IsTrue (is_node nodes by) × IsTrue (is_node nodes of)
