-- A flat list gives its tree back.
use Rattle.std.proofs.Common.{ℕ, suc, ◌+◌, ◌<◌, ◌≤◌, ◌≡◌, refl, ap, ◌∙◌, true, false, nat_lt, List, [], ◌∷◌, ◌++◌, length, arith}
use Rattle.std.proofs.lemmas.List.{append_assoc, append-nil, length-append}
use Rattle.std.proofs.lemmas.Bool.Decides.{nat_tests}
use Rattle.flat_scene.specs.declared.trees.Children.{Children}
use Rattle.flat_scene.specs.declared.trees.Children.TheVariants.{Empty}
use Rattle.flat_scene.specs.Trees.{first, more, node_count}
use Rattle.flat_snap.specs.Flat.{FlatNode, flat_from}
use Rattle.flat_snap.specs.Forest.{as_node, forest_in, forest}

pub length-flat : (next : ℕ) (all : Children) → length (flat_from next all) ≡ node_count all
length-flat next Empty = refl
length-flat next (first serial scale turn place clip opacity hits content children rest) =
    let below = length-flat (next + 1) children in
    let after = length-flat (next + 1 + node_count children) rest in
    simp length-append (omega (arith, below, after))

below-not : (a b : ℕ) → b ≤ a → nat_lt a b ≡ false
below-not a b h = grind (arith, nat_tests)

below-is : (a b : ℕ) → a < b → nat_lt a b ≡ true
below-is a b h = grind (arith, nat_tests)

-- no node has a number from one to before a lower one
pub forest-none : (ns : List FlatNode) (next to : ℕ) → to ≤ next → forest_in ns next next to ≡ Empty
forest-none [] next to low = refl
forest-none (n ∷ ns) next to low = rw (below-not next next (omega arith), below-not next to low) refl

-- the first nodes don't count where the numbers begin after them
pub forest-skips : (xs ys : List FlatNode) (next from to : ℕ) → next + length xs ≤ from
    → forest_in (xs ++ ys) next from to ≡ forest_in ys (next + length xs) from to
forest-skips [] ys next from to low = let e : next + 0 ≡ next = omega arith in rw e refl
forest-skips (x ∷ xs) ys next from to low =
    let e : next + suc (length xs) ≡ next + 1 + length xs = omega arith in
    rw (below-is next from (omega arith), e) (forest-skips xs ys (next + 1) from to (omega arith))

-- the first node, its children, and the nodes after them
forest-first : (n : FlatNode) (ns : List FlatNode) (next to : ℕ) → next < to
    → forest_in (n ∷ ns) next next to ≡ more (as_node n (forest_in ns (next + 1) (next + 1) n.end)) (forest_in ns (next + 1) n.end to)
forest-first n ns next to h = rw (below-not next next (omega arith), below-is next to h) refl

-- the trees of a flat list that more nodes follow
pub forest-flat : (all : Children) (rest : List FlatNode) (next to : ℕ) → to ≡ next + node_count all
    → forest_in (flat_from next all ++ rest) next next to ≡ all
forest-flat Empty rest next to e = forest-none rest next to (omega arith)
forest-flat (first serial scale turn place clip opacity hits content children after) rest next to e =
    let end : ℕ = next + 1 + node_count children in
    let here : FlatNode = record {
      serial = serial;
      scale = scale;
      turn = turn;
      place = place;
      clip = clip;
      opacity = opacity;
      hits = hits;
      content = content;
      end = end;
    } in
    let later : List FlatNode = flat_from end after ++ rest in
    let below : forest_in (flat_from (next + 1) children ++ later) (next + 1) (next + 1) end ≡ children
    = forest-flat children later (next + 1) end refl in
    let at : next + 1 + length (flat_from (next + 1) children) ≡ end = omega (arith, length-flat (next + 1) children) in
    let skipped : forest_in (flat_from (next + 1) children ++ later) (next + 1) end to
    ≡ forest_in later (next + 1 + length (flat_from (next + 1) children)) end to
    = forest-skips (flat_from (next + 1) children) later (next + 1) end to (omega (arith, at)) in
    let others : forest_in later end end to ≡ after = forest-flat after rest end to (omega arith) in
    let others' : forest_in (flat_from (next + 1) children ++ later) (next + 1) end to ≡ after
    = skipped ∙ ap (λ (n : ℕ). forest_in later n end to) at ∙ others in
    let split : (flat_from (next + 1) children ++ flat_from end after) ++ rest ≡ flat_from (next + 1) children ++ later
    = append_assoc (flat_from (next + 1) children) (flat_from end after) rest in
    ap (λ (ns : List FlatNode). forest_in (here ∷ ns) next next to) split
    ∙ forest-first here (flat_from (next + 1) children ++ later) next to (omega arith)
    ∙ ap (λ (below : Children). more (as_node here below) (forest_in (flat_from (next + 1) children ++ later) (next + 1) end to)) below
    ∙ ap (λ (rest : Children). more (as_node here children) rest) others'

-- the trees of a flat list
pub forest-whole : (all : Children) → forest (flat_from 0 all) ≡ all
forest-whole all =
    let e : forest_in (flat_from 0 all ++ []) 0 0 (length (flat_from 0 all)) ≡ all
    = forest-flat all [] 0 (length (flat_from 0 all)) (omega (arith, length-flat 0 all)) in
    rw append-nil at e
