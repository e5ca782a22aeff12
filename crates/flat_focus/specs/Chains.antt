-- The focus chain: sessions of the view tree, from the root to the one that has the focus.
use Rattle.std.specs.Prelude.{ℕ, Bool, ◌==◌, if◌then◌else◌, List, [], ◌∷◌, ◌++◌, reverse, find, Option, Some, None}
use Rattle.std.specs.List.{list_any}
use Rattle.std.specs.Option.{option_map_or, option_or}
use Rattle.flat_base.specs.declared.ids.SessionNo.{SessionNo}
use Rattle.flat_scene.specs.declared.frames.ViewNode.{ViewNode}
use Rattle.flat_scene.specs.ViewTrees.{is_node}
use Rattle.flat_focus.specs.declared.focus.FocusAnswer.{FocusAnswer}
use Rattle.flat_focus.specs.declared.focus.FocusAnswer.TheVariants.{Granted, Denied}

-- ---- the tree

-- the first node's session
abbrev pub root_of : List ViewNode → Option SessionNo
root_of [] = None
root_of (node ∷ later) = Some node.session

-- the list from the root to a session, where the nodes stand last first: that to its parent, and then itself
abbrev pub path_in : List ViewNode → SessionNo → List SessionNo
path_in [] s = []
path_in (node ∷ earlier) s =
    if node.session.0 == s.0 then option_map_or (λ p. path_in earlier p) node.parent [] ++ node.session ∷ []
    else path_in earlier s

-- the list from the root to a session in which each one's parent is the one before it; nothing where it is no node
abbrev pub path_to : List ViewNode → SessionNo → List SessionNo
path_to nodes s = path_in (reverse nodes) s

-- ---- the chain

-- who has the focus after a frame: the last session of the old chain that is a node, or the root where there is none
abbrev pub focus_in : List ViewNode → List SessionNo → Option SessionNo
focus_in nodes chain = option_or (find (is_node nodes) (reverse chain)) (root_of nodes)

-- the chain after a frame
abbrev pub chain_in : List ViewNode → List SessionNo → List SessionNo
chain_in nodes chain = option_map_or (path_to nodes) (focus_in nodes chain) []

-- whether a session stands on a list
abbrev pub stands_on : List SessionNo → SessionNo → Bool
stands_on path s = list_any (λ one. one.0 == s.0) path

-- whether one session may give the focus to another: it stands on the list from the root to that other
abbrev pub is_granted : List ViewNode → SessionNo → SessionNo → Bool
is_granted nodes by of = stands_on (path_to nodes of) by

-- ---- what is kept

-- For how many sessions there is room, the nodes of the last finished frame, and the chain.
pub record Focusing : Type 0 where
  pub sessions : ℕ
  pub nodes : List ViewNode
  pub chain : List SessionNo

-- the answer to a session that asks for the focus of another
abbrev pub answer_to : List ViewNode → SessionNo → SessionNo → FocusAnswer
answer_to nodes by of = if is_granted nodes by of then Granted else Denied
