-- The nodes of a tree, seen as a list and counted.
use Rattle.std.specs.Prelude.{ℕ, ℤ, ◌+◌, List, [], ◌∷◌, ◌++◌, Option, Some}
use Rattle.flat_base.specs.declared.shapes.IntRect.{IntRect}
use Rattle.flat_base.specs.declared.shapes.Orientation.{Orientation}
use Rattle.flat_scene.specs.declared.calls.HitRegion.{HitRegion}
use Rattle.flat_scene.specs.declared.trees.Content.{Content}
use Rattle.flat_scene.specs.declared.trees.Content.TheVariants as content
use Rattle.flat_scene.specs.declared.trees.Node.{Node}
use Rattle.flat_scene.specs.declared.trees.Children.{Children, More', more_of-Node, end_of-Node, more_of-Children}
use Rattle.flat_scene.specs.declared.trees.Children.{end_of-Children}
use Rattle.flat_scene.specs.declared.trees.Children.TheVariants.{Empty}

-- children that begin with a node of these fields
pattern abbrev pub first : ℕ → ℕ × ℕ → Orientation → ℤ × ℤ → Option IntRect → ℕ → List HitRegion → Option Content
    → Children → Children → Children
first serial scale turn place clip opacity hits content children rest =
    More' tt (more_of-Node serial scale turn place clip opacity hits content children end_of-Node) tt
    (more_of-Children rest end_of-Children)

-- the same, of a node
abbrev pub more : Node → Children → Children
more n rest = first n.serial n.scale n.turn n.place n.clip n.opacity n.hits n.content n.children rest

-- A function of all nodes: `step node below after`, where `below` and `after` are its values for the node's children
-- and for the nodes after it.
abbrev pub fold_nodes : {A : Type 0} → (Node → A → A → A) → A → Children → A
fold_nodes step empty Empty = empty
fold_nodes step empty (first serial scale turn place clip opacity hits content children rest) =
    step
    (record {
      serial = serial;
      scale = scale;
      turn = turn;
      place = place;
      clip = clip;
      opacity = opacity;
      hits = hits;
      content = content;
      children = children;
    })
    (fold_nodes step empty children) (fold_nodes step empty rest)

-- the children, in order
abbrev pub nodes : Children → List Node
nodes = fold_nodes (λ node below after. node ∷ after) []

-- how many nodes there are, with those below them
abbrev pub node_count : Children → ℕ
node_count = fold_nodes (λ node below after. 1 + below + after) 0

-- the serial of a viewport that is a node's content
abbrev pub viewport_in : Option Content → List ℕ
viewport_in (Some (content.Viewport serial pair props)) = serial ∷ []
viewport_in _ = []

-- the serials of the viewports, in preorder
abbrev pub viewports_in : Children → List ℕ
viewports_in = fold_nodes (λ node below after. viewport_in node.content ++ below ++ after) []
