-- What the lists of a builder stand for.
use Rattle.std.specs.Prelude.{ℕ, ◌+◌, ◌≡◌, List, [], ◌∷◌, ◌++◌, length, reverse, Option, Some, None, slice_get}
use Rattle.flat_scene.specs.declared.trees.Children.{Children}
use Rattle.flat_scene.specs.declared.trees.Children.TheVariants.{Empty}
use Rattle.flat_scene.specs.Trees.{node_count}
use Rattle.flat_snap.specs.Flat.{FlatNode, flat_node, flat_from}
use Rattle.flat_snap.specs.Forest.{as_node, forest_in}
use Rattle.flat_snap.specs.Building.{Opened}

-- the open nodes and the closed ones below the innermost
pub record Part : Type 0 where
  pub path : List Opened
  pub done : Children

-- one more node is open, and the nodes after it are closed
abbrev pub opened_at : Option FlatNode → Part → Children → Part
opened_at None outer done = record { path = outer.path; done = done }
opened_at (Some n) outer done = record {
  path = record { node = as_node n Empty; before = outer.done } ∷ outer.path;
  done = done;
}

-- what the nodes before a number stand for, where these are the places of the open ones, the innermost first
abbrev pub part : List FlatNode → ℕ → List ℕ → Part
part ns to [] = record { path = []; done = forest_in ns 0 0 to }
part ns to (p ∷ places) = opened_at (slice_get ns p) (part ns p places) (forest_in ns 0 (p + 1) to)

-- what all nodes stand for, where these are the places of the open ones, the innermost last
abbrev pub whole_part : List FlatNode → List ℕ → Part
whole_part ns places = part ns (length ns) (reverse places)

-- how many nodes stand before the closed ones
abbrev pub path_count : List Opened → ℕ
path_count [] = 0
path_count (o ∷ path) = path_count path + node_count o.before + 1

-- the open nodes and all that were closed before them; an open node has no end yet
abbrev pub flat_path : List Opened → List FlatNode
flat_path [] = []
flat_path (o ∷ path) = flat_path path ++ (flat_from (path_count path) o.before ++ flat_node o.node 0 ∷ [])

-- the places of the open nodes, the innermost last
abbrev pub places_of : List Opened → List ℕ
places_of [] = []
places_of (o ∷ path) = places_of path ++ (path_count path + node_count o.before) ∷ []

-- no open node has children of its own
abbrev pub AreLeaves : List Opened → Type 0
AreLeaves [] = Unit {0}
AreLeaves (o ∷ path) = (o.node.children ≡ Empty) × AreLeaves path

-- The lists are those of a part of a tree.
pub record IsPart (ns : List FlatNode) (places : List ℕ) (path : List Opened) (done : Children) : Type 0 where
  pub leaves : AreLeaves path
  pub flat : ns ≡ flat_path path ++ flat_from (path_count path) done
  pub at : places ≡ places_of path

-- The lists are those of what they stand for.
abbrev pub IsWhole : List FlatNode → List ℕ → Type 0
IsWhole ns places = IsPart ns places (whole_part ns places).path (whole_part ns places).done
