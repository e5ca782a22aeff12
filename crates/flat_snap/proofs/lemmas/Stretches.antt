-- A walk over a flat list: the first node of a stretch, the stretch below it, and the one after it.
use Rattle.std.proofs.Common.{ℕ, ◌+◌, ◌<◌, ◌≤◌, ◌≡◌, refl, sym, ap, ◌∙◌, List, [], ◌∷◌, ◌++◌, length, Some, slice_get, arith}
use Rattle.std.proofs.lemmas.List.{append_assoc, append-nil, length-append}
use Rattle.flat_scene.specs.declared.trees.Children.{Children}
use Rattle.flat_scene.specs.declared.trees.Children.TheVariants.{Empty}
use Rattle.flat_scene.specs.Trees.{first, more, node_count}
use Rattle.flat_snap.specs.Flat.{FlatNode, flat_from}
use Rattle.flat_snap.specs.Forest.{as_node, forest_in}
use Rattle.flat_snap.specs.Stretch.{IsStretch}
use Rattle.flat_snap.proofs.lemmas.Rebuilding.{length-flat, forest-skips, forest-flat}
use Rattle.flat_snap.proofs.Parts.{slice_get-at}

-- the nodes between stand for the trees
pub stretch-trees : (ns : List FlatNode) (from to : ℕ) (s : IsStretch ns from to) → forest_in ns 0 from to ≡ s.trees
stretch-trees ns from to s =
    let after : List FlatNode = flat_from from s.trees ++ s.rest in
    let skipped : forest_in (s.before ++ after) 0 from to ≡ forest_in after (0 + length s.before) from to
    = forest-skips s.before after 0 from to (omega (arith, s.begins)) in
    let at : 0 + length s.before ≡ from = omega (arith, s.begins) in
    ap (λ (xs : List FlatNode). forest_in xs 0 from to) s.is ∙ skipped ∙ ap (λ (n : ℕ). forest_in after n from to) at
    ∙ forest-flat s.trees s.rest from to s.ends

-- a stretch ends within the list
pub stretch-within : (ns : List FlatNode) (from to : ℕ) → IsStretch ns from to → (from ≤ to) × (to ≤ length ns)
stretch-within ns from to s =
    let size : length ns ≡ length s.before + (length (flat_from from s.trees) + length s.rest)
    = ap length s.is ∙ length-append s.before (flat_from from s.trees ++ s.rest)
    ∙ ap (λ (n : ℕ). length s.before + n) (length-append (flat_from from s.trees) s.rest) in
    (omega (arith, s.ends), omega (arith, size, s.begins, s.ends, length-flat from s.trees))

-- the whole list is one
pub stretch-whole : (all : Children) → IsStretch (flat_from 0 all) 0 (length (flat_from 0 all))
stretch-whole all = record {
  trees = all;
  before = [];
  rest = [];
  is = sym (append-nil (flat_from 0 all));
  begins = refl;
  ends = omega (arith, length-flat 0 all);
}

-- a stretch without a node has no trees
pub stretch-none : (ns : List FlatNode) (from to : ℕ) → IsStretch ns from to → to ≤ from → forest_in ns 0 from to ≡ Empty
stretch-none ns from to s low = stretch-trees ns from to s ∙ by_trees s.trees (omega (arith, s.ends))
  where
    by_trees : (trees : Children) → node_count trees ≡ 0 → trees ≡ Empty
    by_trees Empty none = refl
    by_trees (first serial scale turn place clip opacity hits content children rest) none = absurd (omega arith)

-- a stretch has a first node, what is below it, and what is after it
pub record IsFirst (ns : List FlatNode) (from to : ℕ) (n : FlatNode) : Type 0 where
  pub trees : forest_in ns 0 from to ≡ more (as_node n (forest_in ns 0 (from + 1) n.end)) (forest_in ns 0 n.end to)
  pub below : IsStretch ns (from + 1) n.end
  pub after : IsStretch ns n.end to

first-of : (ns : List FlatNode) (from to : ℕ) (n : FlatNode) (trees : Children) (before rest : List FlatNode)
    → ns ≡ before ++ (flat_from from trees ++ rest) → length before ≡ from → to ≡ from + node_count trees
    → from < to → slice_get ns from ≡ Some n → IsFirst ns from to n
first-of ns from to n Empty before rest is begins ends some at = absurd (omega (arith, ends))
first-of ns from to n (first serial scale turn place clip opacity hits content children others) before rest is begins ends some at =
    let end : ℕ = from + 1 + node_count children in
    let here : FlatNode = record {
      serial = serial;
      scale = scale;
      turn = turn;
      place = place;
      clip = clip;
      opacity = opacity;
      hits = hits;
      content = content;
      end = end;
    } in
    let inner : List FlatNode = flat_from (from + 1) children in
    let outer : List FlatNode = flat_from end others in
    let split : ns ≡ before ++ here ∷ (inner ++ (outer ++ rest))
    = is ∙ ap (λ (xs : List FlatNode). before ++ here ∷ xs) (append_assoc inner outer rest) in
    let found : slice_get ns from ≡ Some here
    = ap (λ (xs : List FlatNode). slice_get xs from) split ∙ slice_get-at before here (inner ++ (outer ++ rest)) from begins in
    let both : Some here ≡ Some n = sym found ∙ at in
    let same : here ≡ n = cc in
    let once : before ++ here ∷ (inner ++ (outer ++ rest)) ≡ (before ++ here ∷ []) ++ (inner ++ (outer ++ rest))
    = sym (append_assoc before (here ∷ []) (inner ++ (outer ++ rest))) in
    let twice : (before ++ here ∷ []) ++ (inner ++ (outer ++ rest)) ≡ ((before ++ here ∷ []) ++ inner) ++ (outer ++ rest)
    = sym (append_assoc (before ++ here ∷ []) inner (outer ++ rest)) in
    let one : length (before ++ here ∷ []) ≡ from + 1 = length-append before (here ∷ []) ∙ omega (arith, begins) in
    let below : IsStretch ns (from + 1) end = record {
      trees = children;
      before = before ++ here ∷ [];
      rest = outer ++ rest;
      is = split ∙ once;
      begins = one;
      ends = refl;
    } in
    let after : IsStretch ns end to = record {
      trees = others;
      before = (before ++ here ∷ []) ++ inner;
      rest = rest;
      is = split ∙ once ∙ twice;
      begins = length-append (before ++ here ∷ []) inner ∙ omega (arith, one, length-flat (from + 1) children);
      ends = omega (arith, ends);
    } in
    let whole : IsStretch ns from to = record {
      trees = first serial scale turn place clip opacity hits content children others;
      before = before;
      rest = rest;
      is = is;
      begins = begins;
      ends = ends;
    } in
    let this : IsFirst ns from to here = record {
      trees = stretch-trees ns from to whole
          ∙ ap (λ (all : Children). more (as_node here all) others) (sym (stretch-trees ns (from + 1) end below))
          ∙ ap (λ (all : Children). more (as_node here (forest_in ns 0 (from + 1) end)) all) (sym (stretch-trees ns end to after));
      below = below;
      after = after;
    } in
    rw (← same) this

pub stretch-first : (ns : List FlatNode) (from to : ℕ) (n : FlatNode) → IsStretch ns from to → from < to → slice_get ns from ≡ Some n → IsFirst ns from to n
stretch-first ns from to n s some at = first-of ns from to n s.trees s.before s.rest s.is s.begins s.ends some at
