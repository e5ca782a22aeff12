-- The lists of a builder give their part of a tree back, and what its calls make of it.
use Rattle.std.proofs.Common.{ℕ, ◌+◌, ◌≡◌, refl, sym, ap, ◌∙◌, List, [], ◌∷◌, ◌++◌, length, reverse, Some, arith, slice_get, slice_set}
use Rattle.std.proofs.lemmas.List.{append_assoc, append-nil, length-append, reverse-append, set_at}
use Rattle.flat_scene.specs.declared.trees.Children.{Children}
use Rattle.flat_scene.specs.declared.trees.Children.TheVariants.{Empty}
use Rattle.flat_scene.specs.declared.trees.Node.{Node}
use Rattle.flat_scene.specs.Trees.{first, more, node_count}
use Rattle.flat_snap.specs.Flat.{FlatNode, flat_node, flat_from}
use Rattle.flat_snap.specs.Forest.{as_node, forest_in}
use Rattle.flat_snap.specs.Building.{Opened, followed_by, with_children}
use Rattle.flat_snap.specs.Inside.{part, path_count, flat_path, places_of, AreLeaves, IsPart}
use Rattle.flat_snap.proofs.lemmas.Rebuilding.{length-flat, forest-skips, forest-flat}

pub length-path : (path : List Opened) → length (flat_path path) ≡ path_count path
length-path [] = refl
length-path (o ∷ path) =
    let outer = length-path path in
    let before = length-flat (path_count path) o.before in
    simp length-append (omega (arith, outer, before))

-- the places of the open nodes, the innermost first
abbrev inwards : List Opened → List ℕ
inwards [] = []
inwards (o ∷ path) = (path_count path + node_count o.before) ∷ inwards path

reverse-places : (path : List Opened) → reverse (places_of path) ≡ inwards path
reverse-places [] = refl
reverse-places (o ∷ path) = rw (reverse-append, reverse-places path) refl

same-leaf : (n : Node) → n.children ≡ Empty → as_node (flat_node n 0) Empty ≡ n
same-leaf n leaf = rw (← leaf) refl

pub slice_get-at : {X : Type 0} (xs : List X) (y : X) (ys : List X) (n : ℕ) → length xs ≡ n → slice_get (xs ++ y ∷ ys) n ≡ Some y
slice_get-at [] y ys n e = rw (← e) refl
slice_get-at (x ∷ xs) y ys n e = rw (← e) (slice_get-at xs y ys (length xs) refl)

part-inwards : (path : List Opened) (done : Children) (rest : List FlatNode) (to : ℕ) → AreLeaves path → to ≡ path_count path + node_count done
    → part (flat_path path ++ (flat_from (path_count path) done ++ rest)) to (inwards path) ≡ record { path = path; done = done }
part-inwards [] done rest to leaves e = rw (forest-flat done rest 0 to (omega arith)) refl
part-inwards (o ∷ path) done rest to leaves e =
    let outer : ℕ = path_count path in
    let place : ℕ = outer + node_count o.before in
    let after : List FlatNode = flat_from (place + 1) done ++ rest in
    let here : FlatNode = flat_node o.node 0 in
    let left : flat_path (o ∷ path) ++ after ≡ flat_path path ++ (flat_from outer o.before ++ here ∷ after)
    = append_assoc (flat_path path) (flat_from outer o.before ++ here ∷ []) after
    ∙ ap (λ (xs : List FlatNode). flat_path path ++ xs) (append_assoc (flat_from outer o.before) (here ∷ []) after) in
    let right : flat_path path ++ (flat_from outer o.before ++ here ∷ after) ≡ (flat_path path ++ flat_from outer o.before) ++ here ∷ after
    = sym (append_assoc (flat_path path) (flat_from outer o.before) (here ∷ after)) in
    let size : length (flat_path path ++ flat_from outer o.before) ≡ place
    = length-append (flat_path path) (flat_from outer o.before) ∙ omega (arith, length-path path, length-flat outer o.before) in
    let found : slice_get (flat_path (o ∷ path) ++ after) place ≡ Some here
    = ap (λ (xs : List FlatNode). slice_get xs place) (left ∙ right) ∙ slice_get-at (flat_path path ++ flat_from outer o.before) here after place size in
    let below : part (flat_path (o ∷ path) ++ after) place (inwards path) ≡ record { path = path; done = o.before }
    = ap (λ (xs : List FlatNode). part xs place (inwards path)) left ∙ part-inwards path o.before (here ∷ after) place leaves.1 refl in
    let skipped : forest_in (flat_path (o ∷ path) ++ after) 0 (place + 1) to ≡ forest_in after (0 + length (flat_path (o ∷ path))) (place + 1) to
    = forest-skips (flat_path (o ∷ path)) after 0 (place + 1) to (omega (arith, length-path (o ∷ path))) in
    let at : 0 + length (flat_path (o ∷ path)) ≡ place + 1 = omega (arith, length-path (o ∷ path)) in
    let closed : forest_in after (place + 1) (place + 1) to ≡ done = forest-flat done rest (place + 1) to (omega arith) in
    let inner : forest_in (flat_path (o ∷ path) ++ after) 0 (place + 1) to ≡ done
    = skipped ∙ ap (λ (n : ℕ). forest_in after n (place + 1) to) at ∙ closed in
    rw (found, below, inner, same-leaf o.node leaves.0) refl

-- the lists of a part give it back
pub part-whole : (ns : List FlatNode) (places : List ℕ) (path : List Opened) (done : Children) → IsPart ns places path done
    → part ns (length ns) (reverse places) ≡ record { path = path; done = done }
part-whole ns places path done is =
    let size : length ns ≡ path_count path + node_count done
    = ap length is.flat ∙ length-append (flat_path path) (flat_from (path_count path) done)
    ∙ omega (arith, length-path path, length-flat (path_count path) done) in
    let e : part (flat_path path ++ (flat_from (path_count path) done ++ [])) (length ns) (inwards path) ≡ record { path = path; done = done }
    = part-inwards path done [] (length ns) is.leaves size in
    let e' : part (flat_path path ++ flat_from (path_count path) done) (length ns) (inwards path) ≡ record { path = path; done = done }
    = ap (λ (xs : List FlatNode). part (flat_path path ++ xs) (length ns) (inwards path)) (sym (append-nil (flat_from (path_count path) done))) ∙ e in
    let back : reverse places ≡ inwards path = ap reverse is.at ∙ reverse-places path in
    ap (λ (ps : List ℕ). part ns (length ns) ps) back ∙ ap (λ (xs : List FlatNode). part xs (length ns) (inwards path)) is.flat ∙ e'

pub length-part : (ns : List FlatNode) (places : List ℕ) (path : List Opened) (done : Children) → IsPart ns places path done
    → length ns ≡ path_count path + node_count done
length-part ns places path done is =
    ap length is.flat ∙ length-append (flat_path path) (flat_from (path_count path) done) ∙ omega (arith, length-path path, length-flat (path_count path) done)

-- one more node is open
pub part-entered : (ns : List FlatNode) (places : List ℕ) (path : List Opened) (done : Children) (n : Node) → IsPart ns places path done → n.children ≡ Empty
    → IsPart (ns ++ flat_node n 0 ∷ []) (places ++ length ns ∷ []) (record { node = n; before = done } ∷ path) Empty
part-entered ns places path done n is leaf = record {
  leaves = (leaf, is.leaves);
  flat =
      ap (λ (xs : List FlatNode). xs ++ flat_node n 0 ∷ []) is.flat ∙ append_assoc (flat_path path) (flat_from (path_count path) done) (flat_node n 0 ∷ [])
      ∙ sym (append-nil (flat_path path ++ (flat_from (path_count path) done ++ flat_node n 0 ∷ [])));
  at = rw (is.at, length-part ns places path done is) refl;
}

pub flat-followed : (next : ℕ) (all others : Children)
    → flat_from next (followed_by all others) ≡ flat_from next all ++ flat_from (next + node_count all) others
flat-followed next Empty others = let e : next + 0 ≡ next = omega arith in rw e refl
flat-followed next (first serial scale turn place clip opacity hits content children rest) others =
    let end : ℕ = next + 1 + node_count children in
    let e : end + node_count rest ≡ next + node_count (first serial scale turn place clip opacity hits content children rest) = omega arith in
    let later : flat_from end (followed_by rest others) ≡ flat_from end rest ++ flat_from (end + node_count rest) others = flat-followed end rest others in
    rw (later, e, append_assoc) refl

-- the place of the innermost open node
abbrev pub place_of : Opened → List Opened → ℕ
place_of o path = path_count path + node_count o.before

-- the nodes before the innermost open one, that node, and those after it
pub part-split : (ns : List FlatNode) (places : List ℕ) (o : Opened) (path : List Opened) (done : Children) → IsPart ns places (o ∷ path) done
    → ns ≡ (flat_path path ++ flat_from (path_count path) o.before) ++ flat_node o.node 0 ∷ flat_from (place_of o path + 1) done
part-split ns places o path done is =
    let here : FlatNode = flat_node o.node 0 in
    let after : List FlatNode = flat_from (place_of o path + 1) done in
    is.flat ∙ append_assoc (flat_path path) (flat_from (path_count path) o.before ++ here ∷ []) after
    ∙ ap (λ (xs : List FlatNode). flat_path path ++ xs) (append_assoc (flat_from (path_count path) o.before) (here ∷ []) after)
    ∙ sym (append_assoc (flat_path path) (flat_from (path_count path) o.before) (here ∷ after))

pub length-before : (o : Opened) (path : List Opened) → length (flat_path path ++ flat_from (path_count path) o.before) ≡ place_of o path
length-before o path = length-append (flat_path path) (flat_from (path_count path) o.before)
    ∙ omega (arith, length-path path, length-flat (path_count path) o.before)

-- the innermost open node lies at its place
pub part-innermost : (ns : List FlatNode) (places : List ℕ) (o : Opened) (path : List Opened) (done : Children) → IsPart ns places (o ∷ path) done
    → slice_get ns (place_of o path) ≡ Some (flat_node o.node 0)
part-innermost ns places o path done is =
    ap (λ (xs : List FlatNode). slice_get xs (place_of o path)) (part-split ns places o path done is)
    ∙ slice_get-at (flat_path path ++ flat_from (path_count path) o.before) (flat_node o.node 0) (flat_from (place_of o path + 1) done) (place_of o path)
    (length-before o path)

-- the innermost open node is closed
pub part-left : (ns : List FlatNode) (places : List ℕ) (o : Opened) (path : List Opened) (done : Children) → IsPart ns places (o ∷ path) done
    → IsPart (slice_set ns (place_of o path) (flat_node o.node (length ns))) (places_of path) path
    (followed_by o.before (more (with_children o.node done) Empty))
part-left ns places o path done is = record {
  leaves = is.leaves.1;
  flat =
      let here : FlatNode = flat_node o.node (length ns) in
      let after : List FlatNode = flat_from (place_of o path + 1) done in
      let front : List FlatNode = flat_path path ++ flat_from (path_count path) o.before in
      let size : length ns ≡ place_of o path + 1 + node_count done = length-part ns places (o ∷ path) done is in
      let written : slice_set ns (place_of o path) here ≡ front ++ here ∷ after
      = ap (λ (xs : List FlatNode). slice_set xs (place_of o path) here) (part-split ns places o path done is)
      ∙ set_at front (flat_node o.node 0) after here (place_of o path) (length-before o path) in
      let ended : here ∷ after ≡ flat_from (place_of o path) (more (with_children o.node done) Empty)
      = rw (append-nil, size) refl in
      let all : flat_from (path_count path) (followed_by o.before (more (with_children o.node done) Empty))
      ≡ flat_from (path_count path) o.before ++ flat_from (place_of o path) (more (with_children o.node done) Empty)
      = flat-followed (path_count path) o.before (more (with_children o.node done) Empty) in
      written ∙ append_assoc (flat_path path) (flat_from (path_count path) o.before) (here ∷ after)
      ∙ ap (λ (xs : List FlatNode). flat_path path ++ (flat_from (path_count path) o.before ++ xs)) ended
      ∙ ap (λ (xs : List FlatNode). flat_path path ++ xs) (sym all);
  at = refl;
}
