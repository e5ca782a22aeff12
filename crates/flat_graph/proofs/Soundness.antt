-- What each change of a graph leaves sound.
use Rattle.std.proofs.Common.{ℕ, zero, suc, ◌+◌, ◌<◌, ◌≤◌, ◌≡◌, ◌≢◌, ◌⊎◌, inl, inr, refl, sym, ◌∙◌, ap, subst, Bool, true, false, cond, List, [], ◌∷◌, ◌++◌}
use Rattle.std.proofs.Common.{filter, map, Option, Some, None, slice_index_or, slice_set, length, arith}
use Rattle.std.specs.Prelude.{◌==◌, is_some, count_by, Result, Ok, Err, OnOk, is_ok}
use Rattle.std.specs.Option.{option_map}
use Rattle.std.specs.List.{Contains, cons_option}
use Rattle.std.proofs.lemmas.List.Elements.{Contains-push_cases}
use Rattle.std.proofs.lemmas.List.Sums.{sum_by-cons}
use Rattle.std.proofs.lemmas.List.{get_or-set_same, get_or-set_other}
use Rattle.std.proofs.lemmas.Bool.Decides.{eqb_tells, nat_tests}
use Rattle.flat_base.specs.declared.ids.TransformId.{TransformId}
use Rattle.flat_graph.specs.declared.nodes.GraphNode.{GraphNode}
use Rattle.flat_graph.specs.Names.{key_named, keys_named, names_but, names_with}
use Rattle.flat_graph.specs.State.{GraphState, IsGraph, IsSound, IsKept, IsMarked, MayKeep, node_at, with_node, new_node, marked_nodes, without_content}
use Rattle.flat_graph.proofs.lemmas.FewerNodes.{kept-marked, leaves-marked, sound-fewer}
use Rattle.flat_graph.proofs.lemmas.NameLemmas.{named-with, named-but, rising-with, rising-but}

-- a number is a key, or another one
abbrev pub KeyCases : ℕ → ℕ → Type 0
KeyCases k key = ((◌≡◌ (k == key) true) × (k ≡ key)) ⊎ ((◌≡◌ (k == key) false) × (k ≢ key))

-- ---- a new node

-- the nodes are the same but at a key that was free
pub record AddsNode (old new : List (Option GraphNode)) (key : ℕ) (node : GraphNode) : Type 0 where
  pub was_free : slice_index_or old key None ≡ None
  pub there : slice_index_or new key None ≡ Some node
  pub others : (other : ℕ) → other ≢ key → slice_index_or new other None ≡ slice_index_or old other None

-- what has a node keeps one
pub kept-more : (old new : List (Option GraphNode)) (key : ℕ) (node : GraphNode) → AddsNode old new key node → (k : ℕ) → IsKept old k → IsKept new k
kept-more old new key node adds k kept = by_key (eqb_tells k key)
  where
    by_key : KeyCases k key → IsKept new k
    by_key (inl same) = rw (same.1, adds.there) refl
    by_key (inr apart) = rw (adds.others k apart.1) kept

-- a node of the new nodes is an old one or the new one
pub node-added : (old new : List (Option GraphNode)) (key : ℕ) (node other : GraphNode) → AddsNode old new key node → (k : ℕ)
    → slice_index_or new k None ≡ Some other
    → (slice_index_or old k None ≡ Some other) ⊎ ((k ≡ key) × (other ≡ node))
node-added old new key node other adds k h = by_key (eqb_tells k key)
  where
    by_key : KeyCases k key → (slice_index_or old k None ≡ Some other) ⊎ ((k ≡ key) × (other ≡ node))
    by_key (inl same) = let e : Some node ≡ Some other = sym adds.there ∙ (rw same.1 at h) in inr (same.1, (cc))
    by_key (inr apart) = inl (sym (adds.others k apart.1) ∙ h)

-- the graph after a creation
abbrev pub created : GraphState → List (Option GraphNode) → ℕ → ℕ → GraphState
created old nodes id key = record { nodes = nodes; names = names_with (record { id = id; key = key }) old.names; root = old.root; made = old.made + 1 }

pub sound-created : (old : GraphState) (nodes : List (Option GraphNode)) (id key serial : ℕ) → IsSound old → AddsNode old.nodes nodes key (new_node serial)
    → key_named old.names id ≡ None → id ≢ 0 → IsSound (created old nodes id key)
sound-created old nodes id key serial sound adds absent some = record {
  names_kept = λ other k h. by_name other k (id == other) (sym (named-with (record { id = id; key = key }) old.names other absent) ∙ h);
  root_kept = λ k h. kept k (sound.root_kept k h);
  children_kept = λ k node h child has. by_node k node child has (node-added old.nodes nodes key (new_node serial) node adds k h);
  rising = rising-with (record { id = id; key = key }) old.names absent sound.rising;
  no_zero = named-with (record { id = id; key = key }) old.names 0 absent ∙ zero_none (id == 0) refl;
  apart = λ a b k h h'.
      by_two a b k (id == a) refl (id == b) refl (sym (named-with (record { id = id; key = key }) old.names a absent) ∙ h)
      (sym (named-with (record { id = id; key = key }) old.names b absent) ∙ h');
}
  where
    -- the key of the new node was free
    not_old : (a k : ℕ) → key ≡ k → key_named old.names a ≡ Some k → ⊥
    not_old a k same h = let was : IsKept old.nodes k = sound.names_kept a k h in let free : IsKept old.nodes key =
        rw same was in let no : ◌≡◌ {A = Bool} false true = rw adds.was_free at free in cc

    by_two : (a b k : ℕ) (x : Bool) → (id == a) ≡ x → (y : Bool) → (id == b) ≡ y → cond x (Some key) (key_named old.names a) ≡ Some k
        → cond y (Some key) (key_named old.names b) ≡ Some k → a ≡ b
    by_two a b k true e true e' h h' = grind (arith, nat_tests)
    by_two a b k true e false e' h h' = absurd (not_old b k (cc) h')
    by_two a b k false e true e' h h' = absurd (not_old a k (cc) h)
    by_two a b k false e false e' h h' = sound.apart a b k h h'

    kept : (k : ℕ) → IsKept old.nodes k → IsKept nodes k
    kept = kept-more old.nodes nodes key (new_node serial) adds

    by_name : (other k : ℕ) (b : Bool) → cond b (Some key) (key_named old.names other) ≡ Some k → IsKept nodes k
    by_name other k true h = let same : key ≡ k = cc in rw (← same, adds.there) refl
    by_name other k false h = kept k (sound.names_kept other k h)

    zero_none : (b : Bool) → (id == 0) ≡ b → cond b (Some key) (key_named old.names 0) ≡ None
    zero_none true e = absurd (some (grind (arith, nat_tests)))
    zero_none false e = sound.no_zero

    by_node : (k : ℕ) (node : GraphNode) (child : ℕ) → Contains node.children child
        → (slice_index_or old.nodes k None ≡ Some node) ⊎ ((k ≡ key) × (node ≡ new_node serial)) → IsKept nodes child
    by_node k node child has (inl h) = kept child (sound.children_kept k node h child has)
    by_node k node child has (inr same) =
        let none : Contains [] child = subst (λ (n : GraphNode). Contains n.children child) same.1 has in
        let no : none.0 < 0 = none.1 in
        absurd (omega arith)

pub graph-created : (places places' id key serial : ℕ) (old : GraphState) (nodes : List (Option GraphNode)) → IsGraph places old
    → AddsNode old.nodes nodes key (new_node serial)
    → key_named old.names id ≡ None → id ≢ 0 → count_by is_some nodes ≡ count_by is_some old.nodes + 1 → places ≤ places' → key < places'
    → IsGraph places' (created old nodes id key)
graph-created places places' id key serial old nodes g adds absent some count more within = record {
  sound = sound-created old nodes id key serial g.sound adds absent some;
  in_range = λ k kept. by_key k kept (eqb_tells k key);
  few = let low : count_by is_some old.nodes ≤ old.made = g.few in omega (arith, count, low);
}
  where
    by_key : (k : ℕ) → IsKept nodes k → KeyCases k key → k < places'
    by_key k kept (inl same) = omega (arith, same.1)
    by_key k kept (inr apart) = let h : k < places = g.in_range k (rw (adds.others k apart.1) at kept) in omega arith

-- ---- a name less

pub sound-released : (old : GraphState) (id : ℕ) → IsSound old → IsSound (record old { names = names_but id old.names })
sound-released old id sound = record {
  names_kept = λ other k h. by_name other k (id == other) (sym (named-but id old.names other) ∙ h);
  root_kept = sound.root_kept;
  children_kept = sound.children_kept;
  rising = rising-but id old.names sound.rising;
  no_zero = named-but id old.names 0 ∙ zero_none (id == 0);
  apart = λ a b k h h'. by_two a b k (id == a) (id == b) (sym (named-but id old.names a) ∙ h) (sym (named-but id old.names b) ∙ h');
}
  where
    by_two : (a b k : ℕ) (x y : Bool) → cond x None (key_named old.names a) ≡ Some k → cond y None (key_named old.names b) ≡ Some k → a ≡ b
    by_two a b k true y h h' = absurd (cc)
    by_two a b k false true h h' = absurd (cc)
    by_two a b k false false h h' = sound.apart a b k h h'

    by_name : (other k : ℕ) (b : Bool) → cond b None (key_named old.names other) ≡ Some k → IsKept old.nodes k
    by_name other k true h = absurd (cc)
    by_name other k false h = sound.names_kept other k h

    zero_none : (b : Bool) → cond b None (key_named old.names 0) ≡ None
    zero_none true = refl
    zero_none false = sound.no_zero

pub graph-released : (places id : ℕ) (old : GraphState) → IsGraph places old → IsGraph places (record old { names = names_but id old.names })
graph-released places id old g = record { sound = sound-released old id g.sound; in_range = g.in_range; few = g.few }

-- ---- a change of one node

pub in_list : {X : Type 0} (xs : List (Option X)) (key : ℕ) (x : X) → slice_index_or xs key None ≡ Some x → key < length xs
in_list [] key x h = absurd (cc)
in_list (y ∷ ys) zero x h = omega (arith)
in_list (y ∷ ys) (suc key) x h = let step : key < length ys = in_list ys key x h in omega (arith)

pub kept-set : (nodes : List (Option GraphNode)) (key : ℕ) (old new : GraphNode) → slice_index_or nodes key None ≡ Some old
    → (k : ℕ) → IsKept nodes k → IsKept (slice_set nodes key (Some new)) k
kept-set nodes key old new there k kept = by_key (eqb_tells k key)
  where
    by_key : KeyCases k key → IsKept (slice_set nodes key (Some new)) k
    by_key (inl same) = rw (same.1, get_or-set_same nodes key (Some new) None (in_list nodes key old there)) refl
    by_key (inr apart) = rw (get_or-set_other nodes key k (Some new) None apart.1) kept

pub kept-unset : (nodes : List (Option GraphNode)) (key : ℕ) (old new : GraphNode) → slice_index_or nodes key None ≡ Some old
    → (k : ℕ) → IsKept (slice_set nodes key (Some new)) k → IsKept nodes k
kept-unset nodes key old new there k kept = by_key (eqb_tells k key)
  where
    by_key : KeyCases k key → IsKept nodes k
    by_key (inl same) = rw (same.1, there) refl
    by_key (inr apart) = rw (get_or-set_other nodes key k (Some new) None apart.1) at kept

-- a node after the change is the changed one or another
pub node-changed : (nodes : List (Option GraphNode)) (key : ℕ) (old new : GraphNode) → slice_index_or nodes key None ≡ Some old
    → (k : ℕ) (node : GraphNode) → slice_index_or (slice_set nodes key (Some new)) k None ≡ Some node
    → ((k ≡ key) × (node ≡ new)) ⊎ ((k ≢ key) × (slice_index_or nodes k None ≡ Some node))
node-changed nodes key old new there k node h = by_key (eqb_tells k key)
  where
    by_key : KeyCases k key → ((k ≡ key) × (node ≡ new)) ⊎ ((k ≢ key) × (slice_index_or nodes k None ≡ Some node))
    by_key (inl same) =
        let now : slice_index_or (slice_set nodes key (Some new)) k None ≡ Some new =
        rw same.1 (get_or-set_same nodes key (Some new) None (in_list nodes key old there)) in
        let e : Some new ≡ Some node = sym now ∙ h in
        inl (same.1, (cc))
    by_key (inr apart) = inr (apart.1, rw (get_or-set_other nodes key k (Some new) None apart.1) at h)

count-first : (slot : Option GraphNode) (slots : List (Option GraphNode)) → count_by is_some (slot ∷ slots) ≡ cond (is_some slot) 1 0 + count_by is_some slots
count-first slot slots = sum_by-cons (λ (x : Option GraphNode). cond (is_some x) 1 0) slot slots

count-set : (nodes : List (Option GraphNode)) (key : ℕ) (old new : GraphNode) → slice_index_or nodes key None ≡ Some old
    → count_by is_some (slice_set nodes key (Some new)) ≡ count_by is_some nodes
count-set [] key old new there = refl
count-set (slot ∷ slots) zero old new there = rw there (count-first (Some new) slots ∙ sym (count-first (Some old) slots))
count-set (slot ∷ slots) (suc key) old new there =
    count-first slot (slice_set slots key (Some new)) ∙ ap (λ (n : ℕ). cond (is_some slot) 1 0 + n) (count-set slots key old new there)
    ∙ sym (count-first slot slots)

pub sound-changed : (graph : GraphState) (key : ℕ) (old new : GraphNode) → IsSound graph → node_at graph key ≡ Some old
    → ((child : ℕ) → Contains new.children child → IsKept graph.nodes child) → IsSound (with_node graph key new)
sound-changed graph key old new sound there children = record {
  names_kept = λ id k h. kept k (sound.names_kept id k h);
  root_kept = λ k h. kept k (sound.root_kept k h);
  children_kept = λ k node h child has. kept child (by_key k node child has (node-changed graph.nodes key old new there k node h));
  rising = sound.rising;
  no_zero = sound.no_zero;
  apart = sound.apart;
}
  where
    kept : (k : ℕ) → IsKept graph.nodes k → IsKept (slice_set graph.nodes key (Some new)) k
    kept = kept-set graph.nodes key old new there

    by_key : (k : ℕ) (node : GraphNode) (child : ℕ) → Contains node.children child
        → ((k ≡ key) × (node ≡ new)) ⊎ ((k ≢ key) × (slice_index_or graph.nodes k None ≡ Some node)) → IsKept graph.nodes child
    by_key k node child has (inl is) = children child (subst (λ (n : GraphNode). Contains n.children child) is.1 has)
    by_key k node child has (inr was) = sound.children_kept k node was.1 child has

pub graph-changed : (places : ℕ) (graph : GraphState) (key : ℕ) (old new : GraphNode) → IsGraph places graph → node_at graph key ≡ Some old
    → ((child : ℕ) → Contains new.children child → IsKept graph.nodes child) → IsGraph places (with_node graph key new)
graph-changed places graph key old new g there children = record {
  sound = sound-changed graph key old new g.sound there children;
  in_range = λ k h. g.in_range k (kept-unset graph.nodes key old new there k h);
  few = rw (count-set graph.nodes key old new there) g.few;
}

-- a node whose children stay
pub graph-set : (places : ℕ) (graph : GraphState) (key : ℕ) (old new : GraphNode) → IsGraph places graph → node_at graph key ≡ Some old
    → new.children ≡ old.children
    → IsGraph places (with_node graph key new)
graph-set places graph key old new g there same =
    graph-changed places graph key old new g there (λ child has. g.sound.children_kept key old there child
    (subst (λ (keys : List ℕ). Contains keys child) same has))

pub kept-push : (nodes : List (Option GraphNode)) (children : List ℕ) (new : ℕ) → ((child : ℕ) → Contains children child → IsKept nodes child)
    → IsKept nodes new
    → (child : ℕ) → Contains (children ++ new ∷ []) child → IsKept nodes child
kept-push nodes children new all one child has = by_cases (Contains-push_cases children new child has)
  where
    by_cases : Contains children child ⊎ (new ≡ child) → IsKept nodes child
    by_cases (inl old) = all child old
    by_cases (inr same) = rw (← same) one

-- what ids name is kept
pub kept-named : (graph : GraphState) → IsSound graph → (ids : List TransformId) (child : ℕ) → Contains (keys_named graph.names ids) child
    → IsKept graph.nodes child
kept-named graph sound [] child has = absurd (omega (arith, has.1))
kept-named graph sound (id ∷ ids) child has = by_key (key_named graph.names id.0) (sound.names_kept id.0) (kept-named graph sound ids child) has
  where
    by_key : (x : Option ℕ) → ((key : ℕ) → x ≡ Some key → IsKept graph.nodes key) → (Contains (keys_named graph.names ids) child → IsKept graph.nodes child)
        → Contains (cons_option x (keys_named graph.names ids)) child → IsKept graph.nodes child
    by_key None kept later has' = later has'
    by_key (Some key) kept later (zero, low, same) = let is : key ≡ child = cc in rw (← is) (kept key refl)
    by_key (Some key) kept later (suc k, low, same) = later (k, omega (arith, low), same)

pub on_ok : {T E : Type 0} (P : Type 0) (result : Result T E) → is_ok result ≡ true → OnOk result P → P
on_ok P (Ok x) e h = h
on_ok P (Err x) e h = absurd (cc)

-- what a filter leaves was there
pub contains-filter : (test : ℕ → Bool) (xs : List ℕ) (x : ℕ) → Contains (filter test xs) x → Contains xs x
contains-filter test [] x has = has
contains-filter test (y ∷ ys) x has = by_test (test y) has (contains-filter test ys x)
  where
    later : Contains ys x → Contains (y ∷ ys) x
    later has' = (suc has'.0, omega (arith, has'.1), has'.2)

    by_test : (b : Bool) → Contains (cond b (y ∷ filter test ys) (filter test ys)) x → (Contains (filter test ys) x → Contains ys x) → Contains (y ∷ ys) x
    by_test true (zero, low, same) more = (zero, omega arith, same)
    by_test true (suc k, low, same) more = later (more (k, omega (arith, low), same))
    by_test false has' more = later (more has')

-- ---- contents dropped

abbrev pub all_without : ℕ → List (Option GraphNode) → List (Option GraphNode)
all_without serial = map (option_map (without_content serial))

pub node-without : (serial : ℕ) (nodes : List (Option GraphNode)) (k : ℕ)
    → slice_index_or (all_without serial nodes) k None ≡ option_map (without_content serial) (slice_index_or nodes k None)
node-without serial [] k = refl
node-without serial (slot ∷ slots) zero = refl
node-without serial (slot ∷ slots) (suc k) = node-without serial slots k

pub some-map : {A B : Type 0} (f : A → B) (x : Option A) → is_some (option_map f x) ≡ is_some x
some-map f None = refl
some-map f (Some x) = refl

count-without : (serial : ℕ) (nodes : List (Option GraphNode)) → count_by is_some (all_without serial nodes) ≡ count_by is_some nodes
count-without serial [] = refl
count-without serial (slot ∷ slots) =
    count-first (option_map (without_content serial) slot) (all_without serial slots)
    ∙ rw (some-map (without_content serial) slot, count-without serial slots) (sym (count-first slot slots))

-- a node without the content is a node that was there
pub was-node : (serial : ℕ) (x : Option GraphNode) (node : GraphNode) → option_map (without_content serial) x ≡ Some node
    → (old : GraphNode) × (x ≡ Some old) × (node ≡ without_content serial old)
was-node serial None node e = absurd (cc)
was-node serial (Some old) node e = (old, refl, (cc))

pub kept-without : (serial : ℕ) (nodes : List (Option GraphNode)) (k : ℕ)
    → is_some (slice_index_or (all_without serial nodes) k None) ≡ is_some (slice_index_or nodes k None)
kept-without serial nodes k = rw (node-without serial nodes k) (some-map (without_content serial) (slice_index_or nodes k None))

pub sound-without : (graph : GraphState) (serial : ℕ) → IsSound graph → IsSound (record graph { nodes = all_without serial graph.nodes })
sound-without graph serial sound = record {
  names_kept = λ id k h. kept k (sound.names_kept id k h);
  root_kept = λ k h. kept k (sound.root_kept k h);
  children_kept = λ k node h child has. kept child (by_node k node child has
      (was-node serial (slice_index_or graph.nodes k None) node (sym (node-without serial graph.nodes k) ∙ h)));
  rising = sound.rising;
  no_zero = sound.no_zero;
  apart = sound.apart;
}
  where
    kept : (k : ℕ) → IsKept graph.nodes k → IsKept (all_without serial graph.nodes) k
    kept k h = kept-without serial graph.nodes k ∙ h

    by_node : (k : ℕ) (node : GraphNode) (child : ℕ) → Contains node.children child
        → (old : GraphNode) × (slice_index_or graph.nodes k None ≡ Some old) × (node ≡ without_content serial old) → IsKept graph.nodes child
    by_node k node child has (old, was, is) = sound.children_kept k old was child (subst (λ (n : GraphNode). Contains n.children child) is has)

pub graph-without : (places : ℕ) (graph : GraphState) (serial : ℕ) → IsGraph places graph
    → IsGraph places (record graph { nodes = all_without serial graph.nodes })
graph-without places graph serial g = record {
  sound = sound-without graph serial g.sound;
  in_range = λ k h. g.in_range k (sym (kept-without serial graph.nodes k) ∙ h);
  few = rw (count-without serial graph.nodes) g.few;
}

-- ---- nodes dropped

pub sound-marked : (graph : GraphState) (marks : List Bool) → IsSound graph → MayKeep marks graph
    → IsSound (record graph { nodes = marked_nodes marks graph.nodes })
sound-marked graph marks sound may = sound-fewer (IsMarked marks) graph (marked_nodes marks graph.nodes) (leaves-marked graph marks may) sound

count-marked : (marks : List Bool) (nodes : List (Option GraphNode)) → count_by is_some (marked_nodes marks nodes) ≤ count_by is_some nodes
count-marked [] [] = omega arith
count-marked (mark ∷ marks) [] = omega arith
count-marked [] (slot ∷ slots) = omega (arith, count-marked [] slots, count-first None (marked_nodes [] slots), count-first slot slots)
count-marked (true ∷ marks) (slot ∷ slots) = omega (arith, count-marked marks slots, count-first slot (marked_nodes marks slots), count-first slot slots)
count-marked (false ∷ marks) (slot ∷ slots) = omega (arith, count-marked marks slots, count-first None (marked_nodes marks slots), count-first slot slots)

pub graph-marked : (places : ℕ) (graph : GraphState) (marks : List Bool) → IsGraph places graph → MayKeep marks graph
    → IsGraph places (record graph { nodes = marked_nodes marks graph.nodes })
graph-marked places graph marks g may = record {
  sound = sound-marked graph marks g.sound may;
  in_range = λ k h. g.in_range k (kept-marked marks graph.nodes k h).1;
  few = let low : count_by is_some graph.nodes ≤ graph.made =
      g.few in let more : count_by is_some (marked_nodes marks graph.nodes) ≤ count_by is_some graph.nodes =
      count-marked marks graph.nodes in omega (arith, low, more);
}

pub is-none : {X : Type 0} (x : Option X) → is_some x ≡ false → x ≡ None
is-none None e = refl
is-none (Some x) e = absurd (cc)
