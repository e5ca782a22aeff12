-- A tree as a list of its nodes, in preorder.
use Rattle.std.specs.Prelude.{ℕ, ℤ, ◌+◌, Bool, true, false, if◌then◌else◌, List, [], ◌∷◌, ◌++◌, Option, Some, None}
use Rattle.flat_base.specs.declared.shapes.IntRect.{IntRect}
use Rattle.flat_base.specs.declared.shapes.Orientation.{Orientation}
use Rattle.flat_scene.specs.declared.calls.HitRegion.{HitRegion}
use Rattle.flat_scene.specs.declared.trees.Children.{Children}
use Rattle.flat_scene.specs.declared.trees.Children.TheVariants.{Empty}
use Rattle.flat_scene.specs.declared.trees.Content.{Content}
use Rattle.flat_scene.specs.declared.trees.Content.TheVariants as content
use Rattle.flat_scene.specs.declared.trees.Node.{Node}
use Rattle.flat_scene.specs.declared.trees.Tree.{Tree}
use Rattle.flat_scene.specs.Trees.{first, more, node_count}
use Rattle.flat_snap.specs.declared.flat.FlatNode.{FlatNode as Lent}

-- a node without its children, and the number before which its subtree ends
pub record FlatNode : Type 0 where
  pub serial : ℕ
  pub scale : ℕ × ℕ
  pub turn : Orientation
  pub place : ℤ × ℤ
  pub clip : Option IntRect
  pub opacity : ℕ
  pub hits : List HitRegion
  pub content : Option Content
  pub end : ℕ

-- the node that is lent, with its regions as they are
abbrev pub lent : Lent → FlatNode
lent n = record {
  serial = n.serial;
  scale = n.scale;
  turn = n.turn;
  place = n.place;
  clip = n.clip;
  opacity = n.opacity;
  hits = n.hits.now;
  content = n.content;
  end = n.end;
}

-- a node without its children, whose subtree ends before that number
abbrev pub flat_node : Node → ℕ → FlatNode
flat_node n after = record {
  serial = n.serial;
  scale = n.scale;
  turn = n.turn;
  place = n.place;
  clip = n.clip;
  opacity = n.opacity;
  hits = n.hits;
  content = n.content;
  end = after;
}

-- the nodes in preorder, which have the numbers from this one on
abbrev pub flat_from : ℕ → Children → List FlatNode
flat_from next Empty = []
flat_from next (first serial scale turn place clip opacity hits content children rest) =
    record {
      serial = serial;
      scale = scale;
      turn = turn;
      place = place;
      clip = clip;
      opacity = opacity;
      hits = hits;
      content = content;
      end = next + 1 + node_count children;
    }
    ∷ (flat_from (next + 1) children ++ flat_from (next + 1 + node_count children) rest)

-- the root, if there is one, as a list of nodes
abbrev pub rooted : Option Node → Children
rooted None = Empty
rooted (Some root) = more root Empty

-- the nodes of a tree
abbrev pub flat_nodes : Tree → List FlatNode
flat_nodes tree = flat_from 0 (rooted tree.root)

-- whether a content is a viewport
abbrev pub is_viewport : Option Content → Bool
is_viewport (Some (content.Viewport serial pair props)) = true
is_viewport _ = false

-- the places of the viewports among some contents, of which the first has this place
abbrev pub viewport_places : ℕ → List (Option Content) → List ℕ
viewport_places place [] = []
viewport_places place (c ∷ cs) = if is_viewport c then place ∷ viewport_places (place + 1) cs else
    viewport_places (place + 1) cs
