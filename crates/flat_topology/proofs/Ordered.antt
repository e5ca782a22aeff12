-- Nodes are placed in preorder.
use Rattle.std.proofs.Common.{◌≡◌, ◌∙◌, sym, ℕ, Bool, true, false, refl, ap, arith, List, [], ◌∷◌, ◌++◌, inl, inr, subst}
use Rattle.std.specs.Prelude.{zero, suc, ◌==◌, nat_le, map, Option, Some, None, option_map, if◌then◌else◌}
use Rattle.std.specs.List.{list_all}
use Rattle.std.proofs.lemmas.Grind.{common_steps}
use Rattle.flat_scene.specs.declared.trees.Node.{Node}
use Rattle.flat_topology.specs.Join.{JoinedTree, nothing, node, child_view, join}
use Rattle.flat_topology.specs.Laws.{DrawsInPreorder}
use Rattle.flat_scene.proofs.lemmas.Members.{IsIn, in-left, in-right, in-contained}
use Rattle.flat_topology.specs.declared.PlacedNode.{PlacedNode}
use Rattle.flat_topology.specs.Place.{Space, display_space, placed_node, node_space, linked_space, placed_in}
use Rattle.flat_topology.specs.Preorder.{Address, comes_before, are_in_order, node_at, addresses, Kept, kept_of, kept_by}
use Rattle.std.proofs.lemmas.Bool.{and_from}
use Rattle.std.proofs.lemmas.List.Folds.{list_all-append}

-- an address begins with this number or a greater one
abbrev from : ℕ → Address → Bool
from first [] = false
from first (n ∷ rest) = nat_le first n

-- ---- tests of each item

all-append : {A : Type 0} (p : A → Bool) (xs ys : List A) → list_all p xs ≡ true → list_all p ys ≡ true → list_all p (xs ++ ys) ≡ true
all-append p xs ys left right = list_all-append p xs ys ∙ and_from (list_all p xs) (list_all p ys) left right

all-map : {A B : Type 0} (p : B → Bool) (f : A → B) (q : A → Bool) → ((x : A) → q x ≡ true → p (f x) ≡ true) → (xs : List A) → list_all q xs ≡ true
    → list_all p (map f xs) ≡ true
all-map p f q step [] all = refl
all-map p f q step (x ∷ xs) all =
    let rest = all-map p f q step xs (grind arith) in
    let here = step x (grind arith) in
    grind (arith, rest, here)

all-weaker : {A : Type 0} (p q : A → Bool) → ((x : A) → q x ≡ true → p x ≡ true) → (xs : List A) → list_all q xs ≡ true → list_all p xs ≡ true
all-weaker p q step [] all = refl
all-weaker p q step (x ∷ xs) all =
    let rest = all-weaker p q step xs (grind arith) in
    let here = step x (grind arith) in
    grind (arith, rest, here)

-- ---- order

-- two ordered lists, where each of the one comes before each of the other
order-append : (xs ys : List Address) → are_in_order xs ≡ true → are_in_order ys ≡ true → list_all (λ x. list_all (comes_before x) ys) xs ≡ true
    → are_in_order (xs ++ ys) ≡ true
order-append [] ys left right across = right
order-append (x ∷ xs) ys left right across =
    let rest = order-append xs ys (grind arith) right (grind arith) in
    let here = all-append (comes_before x) xs ys (grind arith) (grind arith) in
    grind (arith, rest, here)

-- the same number before two addresses leaves their order
same-first : (n : ℕ) (a b : Address) → comes_before (n ∷ a) (n ∷ b) ≡ comes_before a b
same-first n a b = grind (arith, common_steps)

order-map : (f : Address → Address) → ((a b : Address) → comes_before (f a) (f b) ≡ comes_before a b) → (xs : List Address) → are_in_order xs ≡ true
    → are_in_order (map f xs) ≡ true
order-map f same [] ordered = refl
order-map f same (x ∷ xs) ordered =
    let rest = order-map f same xs (grind arith) in
    let here = all-map (comes_before (f x)) f (comes_before x) (λ y before. same x y ∙ before) xs (grind arith) in
    grind (arith, rest, here)

all-of-map : {A B : Type 0} (p : B → Bool) (f : A → B) → ((x : A) → p (f x) ≡ true) → (xs : List A) → list_all p (map f xs) ≡ true
all-of-map p f each [] = refl
all-of-map p f each (x ∷ xs) = let rest = all-of-map p f each xs in let here = each x in grind (arith, rest, here)

-- ---- addresses

-- a later number comes after
later-after : (first : ℕ) (rest : Address) (a : Address) → from (suc first) a ≡ true → comes_before (first ∷ rest) a ≡ true
later-after first rest [] late = absurd (cc)
later-after first rest (n ∷ a) late = grind (arith, common_steps)

from-weaker : (first : ℕ) (a : Address) → from (suc first) a ≡ true → from first a ≡ true
from-weaker first [] late = absurd (cc)
from-weaker first (n ∷ a) late = grind (arith, common_steps)

from-itself : (first : ℕ) → nat_le first first ≡ true
from-itself first = grind (arith, common_steps)

-- the addresses begin with the first number or a greater one
addresses-from : (first : ℕ) (tree : JoinedTree) → list_all (from first) (addresses first tree) ≡ true
addresses-from first nothing = refl
addresses-from first (node s fields linked below after) =
    let rest = all-weaker (from first) (from (suc first)) (from-weaker first) (addresses (suc first) after) (addresses-from (suc first) after) in
    let kids = all-of-map (from first) (λ (a : Address). first ∷ 1 ∷ a) (λ a. from-itself first) (addresses 0 below) in
    let view = all-of-map (from first) (λ (a : Address). first ∷ 0 ∷ a) (λ a. from-itself first) (addresses 0 linked) in
    let others = all-append (from first) _ _ view (all-append (from first) _ _ kids rest) in
    let here = from-itself first in
    grind (arith, others, here)
addresses-from first (child_view s root) = addresses-from first root

-- what a node's own address and those below it come before
module _ (first : ℕ) (linked below after : JoinedTree) where
  later : List Address
  later = addresses (suc first) after

  before-later : (rest : Address) → list_all (comes_before (first ∷ rest)) later ≡ true
  unfolding later
  before-later rest = all-weaker (comes_before (first ∷ rest)) (from (suc first)) (later-after first rest) (addresses (suc first) after)
      (addresses-from (suc first) after)

  here-before : (branch : ℕ) (a : Address) → comes_before (first ∷ []) (first ∷ branch ∷ a) ≡ true
  here-before branch a = grind (arith, common_steps)

  linked-before : (a b : Address) → comes_before (first ∷ 0 ∷ a) (first ∷ 1 ∷ b) ≡ true
  linked-before a b = grind (arith, common_steps)

  keeps-order : (branch : ℕ) (a b : Address) → comes_before (first ∷ branch ∷ a) (first ∷ branch ∷ b) ≡ comes_before a b
  keeps-order branch a b = same-first first (branch ∷ a) (branch ∷ b) ∙ same-first branch a b

  node-in-order : are_in_order (addresses 0 linked) ≡ true → are_in_order (addresses 0 below) ≡ true → are_in_order later ≡ true
      → are_in_order ((first ∷ []) ∷ (map (λ a. first ∷ 0 ∷ a) (addresses 0 linked) ++ (map (λ a. first ∷ 1 ∷ a) (addresses 0 below) ++ later))) ≡ true
  node-in-order view kids rest =
      let views = order-map (λ a. first ∷ 0 ∷ a) (keeps-order 0) (addresses 0 linked) view in
      let children = order-map (λ a. first ∷ 1 ∷ a) (keeps-order 1) (addresses 0 below) kids in
      let right = order-append (map (λ a. first ∷ 1 ∷ a) (addresses 0 below)) later children rest
      (all-of-map (λ x. list_all (comes_before x) later) (λ a. first ∷ 1 ∷ a) (λ a. before-later (1 ∷ a)) (addresses 0 below)) in
      let across = all-of-map (λ x. list_all (comes_before x) (map (λ b. first ∷ 1 ∷ b) (addresses 0 below) ++ later)) (λ a. first ∷ 0 ∷ a)
      (λ a. all-append (comes_before (first ∷ 0 ∷ a)) (map (λ b. first ∷ 1 ∷ b) (addresses 0 below)) later
      (all-of-map (comes_before (first ∷ 0 ∷ a)) (λ b. first ∷ 1 ∷ b) (linked-before a) (addresses 0 below)) (before-later (0 ∷ a)))
      (addresses 0 linked) in
      let below_all = order-append (map (λ a. first ∷ 0 ∷ a) (addresses 0 linked)) (map (λ a. first ∷ 1 ∷ a) (addresses 0 below) ++ later) views right across in
      let here = all-append (comes_before (first ∷ [])) (map (λ a. first ∷ 0 ∷ a) (addresses 0 linked)) (map (λ a. first ∷ 1 ∷ a) (addresses 0 below) ++ later)
      (all-of-map (comes_before (first ∷ [])) (λ a. first ∷ 0 ∷ a) (here-before 0) (addresses 0 linked))
      (all-append (comes_before (first ∷ [])) (map (λ a. first ∷ 1 ∷ a) (addresses 0 below)) later
      (all-of-map (comes_before (first ∷ [])) (λ a. first ∷ 1 ∷ a) (here-before 1) (addresses 0 below)) (before-later [])) in
      grind (arith, here, below_all)

pub addresses-in-order : (first : ℕ) (tree : JoinedTree) → are_in_order (addresses first tree) ≡ true
unfolding later
addresses-in-order first nothing = refl
addresses-in-order first (node s fields linked below after) =
    node-in-order first linked below after (addresses-in-order 0 linked) (addresses-in-order 0 below) (addresses-in-order (suc first) after)
addresses-in-order first (child_view s root) = addresses-in-order first root

-- ---- the nodes at the addresses

map-append : {A B : Type 0} (f : A → B) (xs ys : List A) → map f (xs ++ ys) ≡ map f xs ++ map f ys
map-append f [] ys = refl
map-append f (x ∷ xs) ys = ap (λ rest. f x ∷ rest) (map-append f xs ys)

-- two functions that agree where a test holds
map-same : {A B : Type 0} (f g : A → B) (p : A → Bool) → ((x : A) → p x ≡ true → f x ≡ g x) → (xs : List A) → list_all p xs ≡ true → map f xs ≡ map g xs
map-same f g p same [] all = refl
map-same f g p same (x ∷ xs) all =
    let here = same x (grind arith) in
    let rest = map-same f g p same xs (grind arith) in
    cc

map-through : {A B C : Type 0} (f : B → C) (g : A → B) (h : A → C) → ((x : A) → f (g x) ≡ h x) → (xs : List A) → map f (map g xs) ≡ map h xs
map-through f g h same [] = refl
map-through f g h same (x ∷ xs) = let here = same x in let rest = map-through f g h same xs in cc

-- the node at an address
abbrev kept_at : ℕ → JoinedTree → Address → Option Kept
kept_at first tree address = option_map kept_of (node_at first tree address)

number-itself : (first : ℕ) → (first == first) ≡ true
number-itself first = grind (arith, common_steps)

number-later : (first n : ℕ) → nat_le (suc first) n ≡ true → (n == first) ≡ false
number-later first n late = grind (arith, common_steps)

-- there are but two branches
no-branch : (first : ℕ) (tree : JoinedTree) (n other : ℕ) (a : Address) → node_at first tree (n ∷ suc (suc other) ∷ a) ≡ None
no-branch first nothing n other a = refl
no-branch first (node s fields linked below after) n other a = refl
no-branch first (child_view s root) n other a = no-branch first root n other a

module _ (first : ℕ) (s : ℕ) (fields : Node) (linked below after : JoinedTree) where
  at-here : node_at first (node s fields linked below after) (first ∷ []) ≡ Some (s, fields)
  at-here = rw (number-itself first)

  at-linked : (a : Address) → node_at first (node s fields linked below after) (first ∷ 0 ∷ a) ≡ node_at 0 linked a
  at-linked a = rw (number-itself first)

  at-below : (a : Address) → node_at first (node s fields linked below after) (first ∷ 1 ∷ a) ≡ node_at 0 below a
  at-below a = rw (number-itself first)

  at-later : (a : Address) → from (suc first) a ≡ true → node_at first (node s fields linked below after) a ≡ node_at (suc first) after a
  at-later [] late = absurd (cc)
  at-later (n ∷ []) late = rw (number-later first n late)
  at-later (n ∷ zero ∷ a) late = rw (number-later first n late)
  at-later (n ∷ suc zero ∷ a) late = rw (number-later first n late)
  at-later (n ∷ suc (suc other) ∷ a) late = sym (no-branch (suc first) after n other a)

map-node : {A B : Type 0} (f : A → B) (x : A) (xs ys zs : List A) → map f (x ∷ (xs ++ (ys ++ zs))) ≡ f x ∷ (map f xs ++ (map f ys ++ map f zs))
map-node f x xs ys zs = ap (λ m. f x ∷ m) (map-append f xs (ys ++ zs) ∙ ap (λ m. map f xs ++ m) (map-append f ys zs))

same-parts : {B : Type 0} {a a' : B} {l l' k k' r r' : List B} → a ≡ a' → l ≡ l' → k ≡ k' → r ≡ r' → a ∷ (l ++ (k ++ r)) ≡ a' ∷ (l' ++ (k' ++ r'))
same-parts here view kids rest = cc

-- the nodes at the addresses, in their order, are those that are placed
pub nodes-placed : (first : ℕ) (tree : JoinedTree) (outer : Space)
    → map (kept_at first tree) (addresses first tree) ≡ map (λ (at : PlacedNode). Some (kept_by at)) (placed_in outer tree)
nodes-placed first nothing outer = refl
nodes-placed first (node s fields linked below after) outer =
    let tree : JoinedTree = node s fields linked below after in
    let here : kept_at first tree (first ∷ []) ≡ Some (kept_of (s, fields)) = ap (option_map kept_of) (at-here first s fields linked below after) in
    let view : map (kept_at first tree) (map (λ a. first ∷ 0 ∷ a) (addresses 0 linked))
    ≡ map (λ (at : PlacedNode). Some (kept_by at)) (placed_in (linked_space (node_space outer fields) fields.content) linked) =
    map-through (kept_at first tree) (λ a. first ∷ 0 ∷ a) (kept_at 0 linked) (λ a. ap (option_map kept_of) (at-linked first s fields linked below after a))
    (addresses 0 linked)
    ∙ nodes-placed 0 linked (linked_space (node_space outer fields) fields.content) in
    let kids : map (kept_at first tree) (map (λ a. first ∷ 1 ∷ a) (addresses 0 below))
    ≡ map (λ (at : PlacedNode). Some (kept_by at)) (placed_in (node_space outer fields) below) =
    map-through (kept_at first tree) (λ a. first ∷ 1 ∷ a) (kept_at 0 below) (λ a. ap (option_map kept_of) (at-below first s fields linked below after a))
    (addresses 0 below)
    ∙ nodes-placed 0 below (node_space outer fields) in
    let rest : map (kept_at first tree) (addresses (suc first) after) ≡ map (λ (at : PlacedNode). Some (kept_by at)) (placed_in outer after) =
    map-same (kept_at first tree) (kept_at (suc first) after) (from (suc first))
    (λ a late. ap (option_map kept_of) (at-later first s fields linked below after a late))
    (addresses (suc first) after) (addresses-from (suc first) after)
    ∙ nodes-placed (suc first) after outer in
    joined here view kids rest
  where
    joined : kept_at first (node s fields linked below after) (first ∷ []) ≡ Some (kept_of (s, fields))
        → map (kept_at first (node s fields linked below after)) (map (λ a. first ∷ 0 ∷ a) (addresses 0 linked))
        ≡ map (λ (at : PlacedNode). Some (kept_by at)) (placed_in (linked_space (node_space outer fields) fields.content) linked)
        → map (kept_at first (node s fields linked below after)) (map (λ a. first ∷ 1 ∷ a) (addresses 0 below))
        ≡ map (λ (at : PlacedNode). Some (kept_by at)) (placed_in (node_space outer fields) below)
        → map (kept_at first (node s fields linked below after)) (addresses (suc first) after)
        ≡ map (λ (at : PlacedNode). Some (kept_by at)) (placed_in outer after)
        → map (kept_at first (node s fields linked below after)) (addresses first (node s fields linked below after))
        ≡ map (λ (at : PlacedNode). Some (kept_by at)) (placed_in outer (node s fields linked below after))
    joined here view kids rest =
        map-node (kept_at first (node s fields linked below after)) (first ∷ []) (map (λ a. first ∷ 0 ∷ a) (addresses 0 linked))
        (map (λ a. first ∷ 1 ∷ a) (addresses 0 below)) (addresses (suc first) after)
        ∙ same-parts here view kids rest
        ∙ sym (map-node (λ (at : PlacedNode). Some (kept_by at)) (placed_node s (node_space outer fields) fields)
        (placed_in (linked_space (node_space outer fields) fields.content) linked) (placed_in (node_space outer fields) below) (placed_in outer after))
nodes-placed first (child_view s root) outer = nodes-placed first root outer

in-map : {A B : Type 0} (f : A → B) (x : A) (xs : List A) → IsIn x xs → IsIn (f x) (map f xs)
in-map f x [] here = absurd here
in-map f x (y ∷ ys) (inl same) = inl (ap f same)
in-map f x (y ∷ ys) (inr here) = inr (in-map f x ys here)

same-number : (m n : ℕ) → (m == n) ≡ true → m ≡ n
same-number m n is = grind (arith, common_steps)

-- where an address of a part stands in the whole
module _ (first : ℕ) (s : ℕ) (fields : Node) (linked below after : JoinedTree) where
  whole : List Address
  whole = addresses first (node s fields linked below after)

  in-after : (a : Address) → IsIn a (addresses (suc first) after) → IsIn a whole
  unfolding whole
  in-after a here =
      inr (in-right a (map (λ b. first ∷ 0 ∷ b) (addresses 0 linked)) _ (in-right a (map (λ b. first ∷ 1 ∷ b) (addresses 0 below)) _ here))

  in-linked : (m : ℕ) (a : Address) → m ≡ first → IsIn a (addresses 0 linked) → IsIn (m ∷ 0 ∷ a) whole
  unfolding whole
  in-linked m a same here =
      subst (λ k. IsIn (k ∷ 0 ∷ a) whole) (sym same)
      (inr (in-left (first ∷ 0 ∷ a) (map (λ b. first ∷ 0 ∷ b) (addresses 0 linked)) _ (in-map (λ b. first ∷ 0 ∷ b) a (addresses 0 linked) here)))

  in-below : (m : ℕ) (a : Address) → m ≡ first → IsIn a (addresses 0 below) → IsIn (m ∷ 1 ∷ a) whole
  unfolding whole
  in-below m a same here =
      subst (λ k. IsIn (k ∷ 1 ∷ a) whole) (sym same)
      (inr (in-right (first ∷ 1 ∷ a) (map (λ b. first ∷ 0 ∷ b) (addresses 0 linked)) _
      (in-left (first ∷ 1 ∷ a) (map (λ b. first ∷ 1 ∷ b) (addresses 0 below)) _ (in-map (λ b. first ∷ 1 ∷ b) a (addresses 0 below) here))))

  -- a node at an address is found here or after, by the address's first number
  found : (m : ℕ) (a : Address) (n : ℕ × Node) (here later : Option (ℕ × Node)) → (if m == first then here else later) ≡ Some n
      → ((m ≡ first) → here ≡ Some n → IsIn a whole) → (later ≡ Some n → IsIn a whole) → IsIn a whole
  found m a n here later at now then_ = by_number (m == first) refl
    where
      by_number : (b : Bool) → (m == first) ≡ b → IsIn a whole
      by_number true is = now (same-number m first is) (sym (ap (λ b. if b then here else later) is) ∙ at)
      by_number false isnt = then_ (sym (ap (λ b. if b then here else later) isnt) ∙ at)

-- each node has an address
pub has-address : (first : ℕ) (tree : JoinedTree) (address : Address) (n : ℕ × Node) → node_at first tree address ≡ Some n → IsIn address (addresses first tree)
unfolding whole
has-address first nothing address n at = absurd (cc)
has-address first (node s fields linked below after) [] n at = absurd (cc)
has-address first (node s fields linked below after) (m ∷ []) n at =
    found first s fields linked below after m (m ∷ []) n (Some (s, fields)) (node_at (suc first) after (m ∷ [])) at
    (λ same is. inl (ap (λ k. k ∷ []) same))
    (λ is. in-after first s fields linked below after (m ∷ []) (has-address (suc first) after (m ∷ []) n is))
has-address first (node s fields linked below after) (m ∷ zero ∷ address) n at =
    found first s fields linked below after m (m ∷ 0 ∷ address) n (node_at 0 linked address) (node_at (suc first) after (m ∷ 0 ∷ address)) at
    (λ same is. in-linked first s fields linked below after m address same (has-address 0 linked address n is))
    (λ is. in-after first s fields linked below after (m ∷ 0 ∷ address) (has-address (suc first) after (m ∷ 0 ∷ address) n is))
has-address first (node s fields linked below after) (m ∷ suc zero ∷ address) n at =
    found first s fields linked below after m (m ∷ 1 ∷ address) n (node_at 0 below address) (node_at (suc first) after (m ∷ 1 ∷ address)) at
    (λ same is. in-below first s fields linked below after m address same (has-address 0 below address n is))
    (λ is. in-after first s fields linked below after (m ∷ 1 ∷ address) (has-address (suc first) after (m ∷ 1 ∷ address) n is))
has-address first (node s fields linked below after) (m ∷ suc (suc other) ∷ address) n at = absurd (cc)
has-address first (child_view s root) address n at = has-address first root address n at

pub draws-in-preorder : DrawsInPreorder
draws-in-preorder setup shown = record {
  in_order = addresses-in-order 0 (join setup shown);
  nodes = nodes-placed 0 (join setup shown) (display_space setup);
  all = λ address n at. in-contained address (addresses 0 (join setup shown)) (has-address 0 (join setup shown) address n at);
}
