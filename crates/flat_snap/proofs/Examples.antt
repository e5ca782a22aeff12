-- The definitions, computed on a small tree.
use Rattle.std.proofs.Common.{ℕ, pos, ◌≡◌, refl, List, [], ◌∷◌, ◌++◌, None, Some, Option, map}
use Rattle.flat_base.specs.declared.shapes.Orientation.TheVariants.{Ccw0}
use Rattle.flat_scene.specs.declared.calls.HitRegion.{HitRegion}
use Rattle.flat_scene.specs.declared.calls.Interaction.TheVariants.{Default}
use Rattle.flat_scene.specs.declared.trees.Children.{Children}
use Rattle.flat_scene.specs.declared.trees.Children.TheVariants.{Empty}
use Rattle.flat_scene.specs.declared.trees.Content.{Content}
use Rattle.flat_scene.specs.declared.trees.Content.TheVariants.{Fill, Viewport}
use Rattle.flat_scene.specs.declared.trees.Node.{Node}
use Rattle.flat_scene.specs.declared.trees.Tree.{Tree}
use Rattle.flat_scene.specs.Trees.{more}
use Rattle.flat_snap.specs.declared.flat.FlatNode.{FlatNode as Lent}
use Rattle.flat_snap.specs.declared.flat.PackedNode.{PackedNode}
use Rattle.flat_snap.specs.Flat.{flat_from, flat_node, flat_nodes, lent, viewport_places}
use Rattle.flat_snap.specs.Packed.{unfinished, unpacked_all}
use Rattle.flat_snap.specs.Forest.{forest}
use Rattle.flat_snap.specs.Building.{Opened, followed_by, with_children, begun, entered, left, adds}
use Rattle.flat_snap.specs.Inside.{part, path_count, flat_path, places_of}

abbrev plain : ℕ → Children → Node
plain serial children = record {
  serial = serial;
  scale = (65536, 65536);
  turn = Ccw0;
  place = (pos 0, pos 0);
  clip = None;
  opacity = 65536;
  hits = [];
  content = None;
  children = children;
}

-- a root with two children, the first of which has a child
abbrev root : Node
root = plain 1 (more (plain 2 (more (plain 3 Empty) Empty)) (more (plain 4 Empty) Empty))

abbrev sample : Tree
sample = record { view = None; root = Some root; viewports = [] }

-- serials and ends, in preorder
sample_flat : map {B = ℕ × ℕ} (λ n. (n.serial, n.end)) (flat_nodes sample) ≡ (1, 4) ∷ (2, 3) ∷ (3, 3) ∷ (4, 4) ∷ []
sample_flat = refl

-- the list gives the tree back
sample_back : forest (flat_nodes sample) ≡ more root Empty
sample_back = refl

-- a node, its child, the next child of the root, and what is left to close
sample_built : left (left (entered (left (left (entered (entered (entered (begun 4) (plain 1 Empty)) (plain 2 Empty)) (plain 3 Empty)))) (plain 4 Empty)))
    ≡ record { room = 0; path = []; done = more root Empty }
sample_built = refl

-- ---- a builder's lists

-- the root and its first child are open, and the grandchild was closed
abbrev open_root : Opened
open_root = record { node = plain 1 Empty; before = Empty }

abbrev open_child : Opened
open_child = record { node = plain 2 Empty; before = Empty }

abbrev closed_child : Children
closed_child = more (plain 3 Empty) Empty

sample_path : map {B = ℕ × ℕ} (λ n. (n.serial, n.end)) (flat_path (open_child ∷ open_root ∷ [])) ≡ (1, 0) ∷ (2, 0) ∷ []
sample_path = refl

sample_path_count : path_count (open_child ∷ open_root ∷ []) ≡ 2
sample_path_count = refl

sample_places : places_of (open_child ∷ open_root ∷ []) ≡ 0 ∷ 1 ∷ []
sample_places = refl

sample_part : part (flat_path (open_child ∷ open_root ∷ []) ++ flat_from 2 closed_child) 3 (1 ∷ 0 ∷ [])
    ≡ record { path = open_child ∷ open_root ∷ []; done = closed_child }
sample_part = refl

-- two walks, one after another
sample_adds : adds (adds (begun 4) closed_child) (more root Empty) ≡ record { room = 0; path = []; done = followed_by closed_child (more root Empty) }
sample_adds = refl

sample_followed : followed_by (more (plain 3 Empty) (more (plain 5 Empty) Empty)) closed_child ≡ more (plain 3 Empty) (more (plain 5 Empty) closed_child)
sample_followed = refl

sample_children : with_children (plain 2 Empty) closed_child ≡ plain 2 closed_child
sample_children = refl

-- ---- regions in one list

abbrev region : ℕ → HitRegion
region x = record { area = Some (record { x = pos x; y = pos 0; w = pos 1; h = pos 1 }); interaction = Default }

abbrev three : List HitRegion
three = region 1 ∷ region 2 ∷ region 3 ∷ []

abbrev part_of : ℕ → ℕ → PackedNode
part_of start end = unfinished (flat_node (plain 1 Empty) 0) (record { start = start; end = end })

-- the second and the third region, and none
sample_regions : map (λ n. n.hits) (unpacked_all three (part_of 1 3 ∷ part_of 3 3 ∷ [])) ≡ (region 2 ∷ region 3 ∷ []) ∷ [] ∷ []
sample_regions = refl

-- a node that is lent has the regions that it shows
sample_lent : (n : Lent) → (lent n).hits ≡ n.hits.now
sample_lent n = refl

abbrev shown : Option Content
shown = Some (Viewport 1 (record { 0 = 0 }) (record { w = 1; h = 1; inset = record { top = 0; right = 0; bottom = 0; left = 0 } }))

sample_viewports : viewport_places 0 (shown ∷ None ∷ Some (Fill 2 (0 ∷ 0 ∷ 0 ∷ 0 ∷ []) 1 1) ∷ shown ∷ []) ≡ 0 ∷ 3 ∷ []
sample_viewports = refl
