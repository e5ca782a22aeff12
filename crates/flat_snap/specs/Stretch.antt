-- Some of the nodes of a flat list that are whole trees, one after another.
use Rattle.std.specs.Prelude.{ℕ, ◌+◌, ◌≡◌, List, ◌++◌, length}
use Rattle.flat_scene.specs.declared.trees.Children.{Children}
use Rattle.flat_scene.specs.Trees.{node_count}
use Rattle.flat_snap.specs.Flat.{FlatNode, flat_from}

-- The nodes with the numbers from one to before another are those of some trees.
pub record IsStretch (ns : List FlatNode) (from to : ℕ) : Type 0 where
  pub trees : Children
  pub before : List FlatNode
  pub rest : List FlatNode
  pub is : ns ≡ before ++ (flat_from from trees ++ rest)
  pub begins : length before ≡ from
  pub ends : to ≡ from + node_count trees
