-- Whether a node of a state paints, as the flat list of its nodes and as the rules say it.
use Rattle.std.proofs.Common.{ℕ, suc, ◌+◌, ◌==◌, arith, ◌≡◌, refl, ap, ◌∙◌, Bool, false, ◌||◌, List, ◌++◌, length, Option, Some, None}
use Rattle.std.specs.Prelude.{is_none}
use Rattle.std.specs.List.{list_any}
use Rattle.std.proofs.lemmas.Bool.Decides.{nat_tests}
use Rattle.std.proofs.lemmas.List.Folds.{list_any-append}
use Rattle.flat_scene.specs.declared.trees.Children.{Children}
use Rattle.flat_scene.specs.declared.trees.Children.TheVariants.{Empty}
use Rattle.flat_scene.specs.declared.trees.Node.{Node}
use Rattle.flat_scene.specs.declared.trees.Tree.{Tree}
use Rattle.flat_scene.specs.Trees.{first, node_count}
use Rattle.flat_snap.specs.Flat.{FlatNode, flat_from, flat_nodes, rooted}
use Rattle.flat_topology.specs.Shown.{nodes_of}
use Rattle.flat_join.proofs.lemmas.Rooted.{rooted-alone}
use Rattle.flat_why.specs.Blanks.{paints, some_paint}

any-paints : (next : ℕ) (all : Children) → list_any (λ n. paints n.content) (flat_from next all) ≡ some_paint all
any-paints next Empty = refl
any-paints next (first serial scale turn place clip opacity hits what children rest) =
    let end : ℕ = next + 1 + node_count children in
    let test : FlatNode → Bool = λ n. paints n.content in
    ap (λ (b : Bool). paints what || b)
    (list_any-append test (flat_from (next + 1) children) (flat_from end rest)
    ∙ ap (λ (b : Bool). b || list_any test (flat_from end rest)) (any-paints (next + 1) children)
    ∙ ap (λ (b : Bool). some_paint children || b) (any-paints end rest))

pub paints-flat : (tree : Tree) → list_any (λ n. paints n.content) (flat_nodes tree) ≡ some_paint (nodes_of (Some tree))
paints-flat tree = any-paints 0 (rooted tree.root) ∙ ap some_paint (rooted-alone tree.root)

positive : (n : ℕ) → (suc n == 0) ≡ false
positive n = grind (arith, nat_tests)

none-rooted : (root : Option Node) → (length (flat_from 0 (rooted root)) == 0) ≡ is_none root
none-rooted None = refl
none-rooted (Some root) = positive _

-- a state has no node if and only if it has no root
pub none-flat : (tree : Tree) → (length (flat_nodes tree) == 0) ≡ is_none tree.root
none-flat tree = none-rooted tree.root
