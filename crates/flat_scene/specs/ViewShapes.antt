-- Which lists of view nodes are trees.
use Rattle.std.specs.Prelude.{Bool, true, false, not, ◌&&◌, List, [], ◌∷◌, reverse, Option, Some, None}
use Rattle.flat_base.specs.declared.ids.SessionNo.{SessionNo}
use Rattle.flat_scene.specs.declared.frames.ViewNode.{ViewNode}
use Rattle.flat_scene.specs.ViewTrees.{is_node}

-- whether a node may have this parent where those stand before it: the first has none, and each other's is one of them
abbrev pub is_below : Option SessionNo → List ViewNode → Bool
is_below None [] = true
is_below None (node ∷ earlier) = false
is_below (Some parent) earlier = is_node earlier parent

-- whether nodes are a tree, where they stand last first: each has a session of its own and a parent that it may have
abbrev pub is_tree_in : List ViewNode → Bool
is_tree_in [] = true
is_tree_in (node ∷ earlier) = not (is_node earlier node.session) && (is_below node.parent earlier && is_tree_in earlier)

-- whether nodes are a tree: the sessions differ, the first node alone has no parent, and each other's stands before it
abbrev pub is_tree : List ViewNode → Bool
is_tree nodes = is_tree_in (reverse nodes)
