-- Keys that stand once each and have nodes are no more than the nodes, and are all of them where they are as many.
use Rattle.std.proofs.Common.{ℕ, zero, suc, ◌+◌, ◌<◌, ◌≤◌, ◌≡◌, ◌≢◌, ◌⊎◌, inl, inr, refl, sym, subst, Bool, true, false, cond, List, [], ◌∷◌, length, map}
use Rattle.std.proofs.Common.{Option, Some, None, slice_set, arith}
use Rattle.std.specs.Prelude.{◌==◌, is_some, count_by}
use Rattle.std.specs.List.{Contains}
use Rattle.std.proofs.lemmas.List.Sums.{sum_by-cons}
use Rattle.std.proofs.lemmas.List.{get_or-set_other}
use Rattle.std.proofs.lemmas.Bool.Decides.{eqb_tells, nat_tests}
use Rattle.flat_graph.specs.declared.names.NamedNode.{NamedNode}
use Rattle.flat_graph.specs.declared.nodes.GraphNode.{GraphNode}
use Rattle.flat_graph.specs.Names.{key_named, IsBelowAll, IsRising}
use Rattle.flat_graph.specs.State.{IsKept}
use Rattle.flat_collect.specs.Marking.{IsOnce}

abbrev Slots : Type 0
Slots = List (Option GraphNode)

-- each key has a node
abbrev pub AreKept : Slots → List ℕ → Type 0
AreKept nodes keys = (key : ℕ) → Contains keys key → IsKept nodes key

pub contains-later : (first : ℕ) (keys : List ℕ) (key : ℕ) → Contains keys key → Contains (first ∷ keys) key
contains-later first keys key has = (suc has.0, omega (arith, has.1), has.2)

-- ---- counting nodes

count-first : (slot : Option GraphNode) (slots : Slots) → count_by is_some (slot ∷ slots) ≡ cond (is_some slot) 1 0 + count_by is_some slots
count-first slot slots = sum_by-cons (λ (x : Option GraphNode). cond (is_some x) 1 0) slot slots

-- one node less
count-less : (nodes : Slots) (key : ℕ) → IsKept nodes key → count_by is_some nodes ≡ count_by is_some (slice_set nodes key None) + 1
count-less [] key kept = absurd (cc)
count-less (None ∷ slots) zero kept = absurd (cc)
count-less (Some node ∷ slots) zero kept = omega (arith, count-first (Some node) slots, count-first None slots)
count-less (slot ∷ slots) (suc key) kept = omega (arith, count-less slots key kept, count-first slot slots, count-first slot (slice_set slots key None))

none-kept : (nodes : Slots) → count_by is_some nodes ≡ 0 → (key : ℕ) → IsKept nodes key → ⊥
none-kept [] empty key kept = absurd (cc)
none-kept (None ∷ slots) empty zero kept = absurd (cc)
none-kept (Some node ∷ slots) empty zero kept = absurd (omega (arith, empty, count-first (Some node) slots))
none-kept (slot ∷ slots) empty (suc key) kept = none-kept slots (omega (arith, empty, count-first slot slots)) key kept

kept-other : (nodes : Slots) (key k : ℕ) → k ≢ key → IsKept nodes k → IsKept (slice_set nodes key None) k
kept-other nodes key k apart kept = rw (get_or-set_other nodes key k None None apart) kept

left-kept : (key : ℕ) (keys : List ℕ) (nodes : Slots) → IsOnce (key ∷ keys) → AreKept nodes (key ∷ keys) → AreKept (slice_set nodes key None) keys
left-kept key keys nodes once kept k has = kept-other nodes key k (λ same. once.0 (subst (Contains keys) same has)) (kept k (contains-later key keys k has))

pub no-more : (keys : List ℕ) (nodes : Slots) → IsOnce keys → AreKept nodes keys → length keys ≤ count_by is_some nodes
no-more [] nodes once kept = omega arith
no-more (key ∷ keys) nodes once kept =
    omega (arith, count-less nodes key (kept key (0, omega arith, refl)), no-more keys (slice_set nodes key None) once.1 (left-kept key keys nodes once kept))

pub all-listed : (keys : List ℕ) (nodes : Slots) → IsOnce keys → AreKept nodes keys → length keys ≡ count_by is_some nodes → (k : ℕ) → IsKept nodes k
    → Contains keys k
all-listed [] nodes once kept many k there = absurd (none-kept nodes (sym many) k there)
all-listed (key ∷ keys) nodes once kept many k there =
    by_key (eqb_tells k key)
    (λ apart.
    all-listed keys (slice_set nodes key None) once.1 (left-kept key keys nodes once kept)
    (omega (arith, many, count-less nodes key (kept key (0, omega arith, refl)))) k
    (kept-other nodes key k apart there))
  where
    by_key : ((◌≡◌ (k == key) true) × (k ≡ key)) ⊎ ((◌≡◌ (k == key) false) × (k ≢ key)) → (k ≢ key → Contains keys k) → Contains (key ∷ keys) k
    by_key (inl same) others = (0, omega arith, sym same.1)
    by_key (inr apart) others = contains-later key keys k (others apart.1)

-- ---- the keys that have a name

abbrev pub keys_of : List NamedNode → List ℕ
keys_of names = map (λ name. name.key) names

first-named : (name : NamedNode) (names : List NamedNode) (key : ℕ) → name.key ≡ key → key_named (name ∷ names) name.id ≡ Some key
first-named name names key same = by_test (name.id == name.id) refl
  where
    by_test : (b : Bool) → (name.id == name.id) ≡ b → cond b (Some name.key) (key_named names name.id) ≡ Some key
    by_test true e = rw same refl
    by_test false e = absurd (grind (arith, nat_tests))

named-above : (b : ℕ) (names : List NamedNode) → IsBelowAll b names → (id key : ℕ) → key_named names id ≡ Some key → b < id
named-above b [] below id key named = absurd (cc)
named-above b (name ∷ names) below id key named = by_test (name.id == id) refl named (named-above b names below.1 id key)
  where
    by_test : (c : Bool) → (name.id == id) ≡ c → cond c (Some name.key) (key_named names id) ≡ Some key → (key_named names id ≡ Some key → b < id) → b < id
    by_test true e named' later = let same : name.id ≡ id = grind (arith, nat_tests) in omega (arith, same, below.0)
    by_test false e named' later = later named'

later-named : (name : NamedNode) (names : List NamedNode) → IsBelowAll name.id names → (id key : ℕ) → key_named names id ≡ Some key
    → key_named (name ∷ names) id ≡ Some key
later-named name names below id key named = by_test (name.id == id) refl (named-above name.id names below id key named)
  where
    by_test : (b : Bool) → (name.id == id) ≡ b → name.id < id → cond b (Some name.key) (key_named names id) ≡ Some key
    by_test true e above = absurd (grind (arith, nat_tests))
    by_test false e above = named

pub listed-named : (names : List NamedNode) → IsRising names → (key : ℕ) → Contains (keys_of names) key → (id : ℕ) × (key_named names id ≡ Some key)
listed-named [] rising key has = let no : has.0 < 0 = has.1 in absurd (omega arith)
listed-named (name ∷ names) rising key (zero, low, same) = (name.id, first-named name names key same)
listed-named (name ∷ names) rising key (suc i, low, same) =
    let named : (id : ℕ) × (key_named names id ≡ Some key) = listed-named names rising.1 key (i, omega (arith, low), same) in
    (named.0, later-named name names rising.0 named.0 key named.1)

pub named-listed : (names : List NamedNode) (id key : ℕ) → key_named names id ≡ Some key → Contains (keys_of names) key
named-listed [] id key named = absurd (cc)
named-listed (name ∷ names) id key named = by_test (name.id == id) named (named-listed names id key)
  where
    by_test : (b : Bool) → cond b (Some name.key) (key_named names id) ≡ Some key → (key_named names id ≡ Some key → Contains (keys_of names) key)
        → Contains (keys_of (name ∷ names)) key
    by_test true named' later = let same : name.key ≡ key = cc in (0, omega arith, same)
    by_test false named' later = contains-later name.key (keys_of names) key (later named')

-- no two ids name one node
abbrev pub AreApart : List NamedNode → Type 0
AreApart names = (id other key : ℕ) → key_named names id ≡ Some key → key_named names other ≡ Some key → id ≡ other

pub names-once : (names : List NamedNode) → IsRising names → AreApart names → IsOnce (keys_of names)
names-once [] rising apart = tt
names-once (name ∷ names) rising apart = (
  λ has. once (listed-named names rising.1 name.key has),
  names-once names rising.1 (λ id other key h h'. apart id other key (later-named name names rising.0 id key h) (later-named name names rising.0 other key h')),
)
  where
    once : (id : ℕ) × (key_named names id ≡ Some name.key) → ⊥
    once (id, named) =
        let same : name.id ≡ id = apart name.id id name.key (first-named name names name.key refl) (later-named name names rising.0 id name.key named) in
        absurd (omega (arith, same, named-above name.id names rising.0 id name.key named))
