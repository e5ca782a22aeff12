-- What a list of nodes in preorder stands for.
use Rattle.std.specs.Prelude.{ℕ, ◌+◌, nat_lt, if◌then◌else◌, List, [], ◌∷◌, length}
use Rattle.flat_scene.specs.declared.trees.Children.{Children}
use Rattle.flat_scene.specs.declared.trees.Children.TheVariants.{Empty}
use Rattle.flat_scene.specs.declared.trees.Node.{Node}
use Rattle.flat_scene.specs.Trees.{more}
use Rattle.flat_snap.specs.Flat.{FlatNode}

-- a node with these children
abbrev pub as_node : FlatNode → Children → Node
as_node n children = record {
  serial = n.serial;
  scale = n.scale;
  turn = n.turn;
  place = n.place;
  clip = n.clip;
  opacity = n.opacity;
  hits = n.hits;
  content = n.content;
  children = children;
}

-- the trees of the nodes with the numbers from one to before another, where the list begins with the number `next`
abbrev pub forest_in : List FlatNode → ℕ → ℕ → ℕ → Children
forest_in [] next from to = Empty
forest_in (n ∷ ns) next from to =
    if nat_lt next from then forest_in ns (next + 1) from to else
    (if nat_lt next to then more (as_node n (forest_in ns (next + 1) (next + 1) n.end))
    (forest_in ns (next + 1) n.end to) else Empty)

-- the trees of all nodes
abbrev pub forest : List FlatNode → Children
forest ns = forest_in ns 0 0 (length ns)
