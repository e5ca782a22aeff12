-- A tree that is being built, node by node.
use Rattle.std.specs.Prelude.{ℕ, ◌-◌, List, [], ◌∷◌}
use Rattle.flat_scene.specs.declared.trees.Children.{Children}
use Rattle.flat_scene.specs.declared.trees.Children.TheVariants.{Empty}
use Rattle.flat_scene.specs.declared.trees.Node.{Node}
use Rattle.flat_scene.specs.Trees.{first, more, node_count}

-- an open node, and the closed nodes before it that have the same parent
pub record Opened : Type 0 where
  pub node : Node
  pub before : Children

-- How many nodes more may be entered, the open nodes from the innermost to the root, and the closed children of the
-- innermost.
-- Where no node is open, these are the roots.
pub record Building : Type 0 where
  pub room : ℕ
  pub path : List Opened
  pub done : Children

-- some nodes and then others
abbrev pub followed_by : Children → Children → Children
followed_by Empty others = others
followed_by (first serial scale turn place clip opacity hits content children rest) others =
    first serial scale turn place clip opacity hits content children (followed_by rest others)

-- a node with other children
abbrev pub with_children : Node → Children → Node
with_children n children = record n { children = children }

-- a builder that has that room, and no node
abbrev pub begun : ℕ → Building
begun room = record { room = room; path = []; done = Empty }

-- one more node is open
abbrev pub entered : Building → Node → Building
entered b n = record { room = b.room - 1; path = record { node = n; before = b.done } ∷ b.path; done = Empty }

-- the innermost of the open nodes is closed, with these children
abbrev pub closed : ℕ → List Opened → Children → Building
closed room [] done = record { room = room; path = []; done = done }
closed room (o ∷ path) done = record {
  room = room;
  path = path;
  done = followed_by o.before (more (with_children o.node done) Empty);
}

-- the innermost open node is closed
abbrev pub left : Building → Building
left b = closed b.room b.path b.done

-- some nodes were entered and left, with all below them
abbrev pub adds : Building → Children → Building
adds b children = record b { room = b.room - node_count children; done = followed_by b.done children }
