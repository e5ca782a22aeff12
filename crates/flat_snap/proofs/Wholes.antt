-- What the calls of a builder make of its lists.
use Rattle.std.proofs.Common.{ℕ, ◌+◌, ◌<◌, ◌≤◌, ◌≡◌, ◌≢◌, refl, sym, ap, ◌∙◌, List, [], ◌∷◌, ◌++◌, length, arith, get_or, slice_set}
use Rattle.std.proofs.lemmas.List.{same_from_push, get_or_at}
use Rattle.flat_scene.specs.declared.trees.Children.{Children}
use Rattle.flat_scene.specs.declared.trees.Children.TheVariants.{Empty}
use Rattle.flat_scene.specs.declared.trees.Node.{Node}
use Rattle.flat_scene.specs.Trees.{first, more, nodes}
use Rattle.flat_scene.specs.Tree.{head_of}
use Rattle.flat_snap.specs.Flat.{FlatNode, flat_node, flat_from, rooted}
use Rattle.flat_snap.specs.Forest.{forest}
use Rattle.flat_snap.specs.Building.{Opened, Building, followed_by, with_children}
use Rattle.flat_snap.specs.Inside.{Part, whole_part, path_count, flat_path, places_of, IsPart, IsWhole}
use Rattle.flat_snap.proofs.lemmas.Rebuilding.{forest-whole}
use Rattle.flat_snap.proofs.Parts.{part-whole, part-entered, part-left, part-split, length-part, length-before, place_of}

pub whole : (ns : List FlatNode) (places : List ℕ) (path : List Opened) (done : Children) → IsPart ns places path done → IsWhole ns places
whole ns places path done is = rw (part-whole ns places path done is) is

-- after one more node is open
pub record Enters (ns : List FlatNode) (places : List ℕ) (n : Node) (ns' : List FlatNode) (places' : List ℕ) : Type 0 where
  pub now : whole_part ns' places' ≡ record { path = record { node = n; before = (whole_part ns places).done } ∷ (whole_part ns places).path; done = Empty }
  pub is : IsWhole ns' places'

pub enters : (ns : List FlatNode) (places : List ℕ) (n : Node) (u : FlatNode) (at : ℕ) (ns' : List FlatNode) (places' : List ℕ)
    → IsWhole ns places → n.children ≡ Empty → u ≡ flat_node n 0 → ns' ≡ ns ++ u ∷ [] → at ≡ length ns → places' ≡ places ++ at ∷ []
    → Enters ns places n ns' places'
enters ns places n u at ns' places' is leaf e f g h =
    let then : IsPart ns' places' (record { node = n; before = (whole_part ns places).done } ∷ (whole_part ns places).path) Empty
    = rw (f, h, e, g) (part-entered ns places (whole_part ns places).path (whole_part ns places).done n is leaf) in
    record { now = part-whole ns' places' _ _ then; is = whole ns' places' _ _ then }

-- after the innermost open node is closed
pub record Leaves (ns : List FlatNode) (places : List ℕ) (at : ℕ) (places' : List ℕ) : Type 0 where
  pub innermost : Opened
  pub path : List Opened
  pub was : (whole_part ns places).path ≡ innermost ∷ path
  pub within : at < length ns
  pub there : (d : FlatNode) → get_or ns at d ≡ flat_node innermost.node 0
  pub now : (u : FlatNode) → u ≡ flat_node innermost.node (length ns)
      → whole_part (slice_set ns at u) places' ≡ record {
        path = path;
        done = followed_by innermost.before (more (with_children innermost.node (whole_part ns places).done) Empty);
      }
  pub is : (u : FlatNode) → u ≡ flat_node innermost.node (length ns) → IsWhole (slice_set ns at u) places'

leaves-from : (ns : List FlatNode) (places : List ℕ) (at : ℕ) (places' : List ℕ) (path : List Opened) → (whole_part ns places).path ≡ path
    → IsPart ns places path (whole_part ns places).done → path ≢ [] → places ≡ places' ++ at ∷ [] → Leaves ns places at places'
leaves-from ns places at places' [] e is has_open popped = absurd (has_open refl)
leaves-from ns places at places' (o ∷ path) e is has_open popped =
    let done : Children = (whole_part ns places).done in
    let ends : (places' ≡ places_of path) × (at ≡ place_of o path) = same_from_push places' (places_of path) at (place_of o path) (sym popped ∙ is.at) in
    let after = (λ (u : FlatNode) (same : u ≡ flat_node o.node (length ns)).
    (let closed : IsPart (slice_set ns at u) places' path (followed_by o.before (more (with_children o.node done) Empty))
    = rw (ends.0, ends.1, same) (part-left ns places o path done is) in closed)) in
    record {
      innermost = o;
      path = path;
      was = e;
      within = omega (arith, length-part ns places (o ∷ path) done is, ends.1);
      there = λ d. rw (ends.1, part-split ns places o path done is)
          (get_or_at (flat_path path ++ flat_from (path_count path) o.before) (flat_node o.node 0) (flat_from (place_of o path + 1) done) d (place_of o path)
          (length-before o path));
      now = λ u same. part-whole (slice_set ns at u) places' _ _ (after u same);
      is = λ u same. whole (slice_set ns at u) places' _ _ (after u same);
    }

pub leaves : (ns : List FlatNode) (places : List ℕ) (at : ℕ) (places' : List ℕ)
    → IsWhole ns places → (whole_part ns places).path ≢ [] → places ≡ places' ++ at ∷ [] → Leaves ns places at places'
leaves ns places at places' is has_open popped = leaves-from ns places at places' (whole_part ns places).path refl is has_open popped

rooted-head : (all : Children) → length (nodes all) ≤ 1 → rooted (head_of all) ≡ all
rooted-head Empty few = refl
rooted-head (first serial scale turn place clip opacity hits content children Empty) few = refl
rooted-head (first serial scale turn place clip opacity hits content children (first serial' scale' turn' place' clip' opacity' hits' content' children' rest))
    few = absurd (omega arith)

closed-flat : (ns : List FlatNode) (places : List ℕ) (path : List Opened) (done : Children) → IsPart ns places path done → path ≡ [] → ns ≡ flat_from 0 done
closed-flat ns places [] done is e = is.flat
closed-flat ns places (o ∷ path) done is e = cc

-- where no node is open, the list has just the closed ones
pub closed-forest : (ns : List FlatNode) (places : List ℕ) → IsWhole ns places → (whole_part ns places).path ≡ [] → forest ns ≡ (whole_part ns places).done
closed-forest ns places is e =
    let flat : ns ≡ flat_from 0 (whole_part ns places).done = closed-flat ns places (whole_part ns places).path (whole_part ns places).done is e in
    ap forest flat ∙ forest-whole (whole_part ns places).done

pub closed-root : (ns : List FlatNode) (places : List ℕ) → IsWhole ns places → (whole_part ns places).path ≡ [] → length (nodes (whole_part ns places).done) ≤ 1
    → ns ≡ flat_from 0 (rooted (head_of (forest ns)))
closed-root ns places is e few =
    let flat : ns ≡ flat_from 0 (whole_part ns places).done = closed-flat ns places (whole_part ns places).path (whole_part ns places).done is e in
    let same : forest ns ≡ (whole_part ns places).done = closed-forest ns places is e in
    flat ∙ ap (flat_from 0) (sym (rooted-head (whole_part ns places).done few)) ∙ ap (λ (all : Children). flat_from 0 (rooted (head_of all))) (sym same)

abbrev pub building : ℕ → Part → Building
building room p = record { room = room; path = p.path; done = p.done }

pub same-building : (r r' : ℕ) (p p' : Part) → r ≡ r' → p ≡ p' → building r p ≡ building r' p'
same-building r r' p p' e f = rw (e, f) refl

-- a node whose end is known
abbrev pub with_end : FlatNode → ℕ → FlatNode
with_end n after = record n { end = after }

pub ended : (was : FlatNode) (n : Node) (end size : ℕ) → was ≡ flat_node n 0 → end ≡ size → with_end was end ≡ flat_node n size
ended was n end size e f = rw (e, f) refl
