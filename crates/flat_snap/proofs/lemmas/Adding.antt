-- How a walk builds the nodes that it goes over.
use Rattle.std.proofs.Common.{◌+◌, ◌-◌, ◌≡◌, refl, ap, arith}
use Rattle.flat_scene.specs.declared.trees.Children.{Children}
use Rattle.flat_scene.specs.declared.trees.Children.TheVariants.{Empty}
use Rattle.flat_scene.specs.declared.trees.Node.{Node}
use Rattle.flat_scene.specs.Trees.{first, more, node_count}
use Rattle.flat_snap.specs.Building.{Building, followed_by, with_children, entered, left, adds}

pub followed-nil : (all : Children) → followed_by all Empty ≡ all
followed-nil Empty = refl
followed-nil (first serial scale turn place clip opacity hits content children rest) =
    ap (first serial scale turn place clip opacity hits content children) (followed-nil rest)

pub followed-assoc : (a b c : Children) → followed_by (followed_by a b) c ≡ followed_by a (followed_by b c)
followed-assoc Empty b c = refl
followed-assoc (first serial scale turn place clip opacity hits content children rest) b c =
    ap (first serial scale turn place clip opacity hits content children) (followed-assoc rest b c)

pub count-followed : (a b : Children) → node_count (followed_by a b) ≡ node_count a + node_count b
count-followed Empty b = omega arith
count-followed (first serial scale turn place clip opacity hits content children rest) b = omega (arith, count-followed rest b)

-- no node is added
pub adds-none : (b : Building) → adds b Empty ≡ b
adds-none b = let e : b.room - 0 ≡ b.room = omega arith in rw (followed-nil, e) refl

-- some nodes are added, and then others
pub adds-adds : (b : Building) (all others : Children) → adds (adds b all) others ≡ adds b (followed_by all others)
adds-adds b all others =
    let e : b.room - node_count all - node_count others ≡ b.room - node_count (followed_by all others) = omega (arith, count-followed all others) in
    rw (followed-assoc, e) refl

-- a node is entered, its children are added, and it is left
pub left-adds : (b : Building) (n : Node) (children : Children) → left (adds (entered b n) children) ≡ adds b (more (with_children n children) Empty)
left-adds b n children =
    let e : b.room - 1 - node_count children ≡ b.room - (1 + node_count children + 0) = omega arith in
    rw e refl
