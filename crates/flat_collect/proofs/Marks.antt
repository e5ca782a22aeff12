-- The steps by which the keys are found that are reached.
use Rattle.std.proofs.Common.{ℕ, zero, suc, ◌+◌, ◌<◌, ◌≤◌, ◌≡◌, ◌≢◌, ◌⊎◌, inl, inr, refl, sym, ◌∙◌, ap, subst, Bool, true, false, List, [], ◌∷◌, ◌++◌, length}
use Rattle.std.proofs.Common.{map, take, slice_index_or, slice_set, arith, length-set, append_assoc}
use Rattle.std.specs.Prelude.{◌==◌}
use Rattle.std.specs.List.{Contains}
use Rattle.std.proofs.lemmas.List.{append-nil, get_or-set_same, get_or-set_other, map-append, take_all, take_more}
use Rattle.std.proofs.lemmas.List.Elements.{Contains-push, Contains-push_cases, Contains-append_left, Contains-append_right, Contains-append_cases}
use Rattle.std.proofs.lemmas.Bool.Decides.{eqb_tells}
use Rattle.flat_graph.specs.declared.names.NamedNode.{NamedNode}
use Rattle.flat_graph.specs.State.{IsMarked}
use Rattle.flat_collect.specs.declared.reached_nodes.ReachedNodes.{ReachedNodes}
use Rattle.flat_collect.specs.Marking.{Adds, IsListed, IsOnce}
use Rattle.flat_collect.proofs.Counting.{contains-later, keys_of}

-- ---- the marks and the list

pub once-push : (keys : List ℕ) (key : ℕ) → IsOnce keys → ¬ Contains keys key → IsOnce (keys ++ key ∷ [])
once-push [] key once new = (λ has. let no : has.0 < 0 = has.1 in absurd (omega arith), tt)
once-push (first ∷ keys) key once new = (
  λ has. by_cases (Contains-push_cases keys key first has),
  once-push keys key once.1 (λ has. new (contains-later first keys key has)),
)
  where
    by_cases : Contains keys first ⊎ (key ≡ first) → ⊥
    by_cases (inl old) = once.0 old
    by_cases (inr same) = new (0, omega arith, sym same)

-- what is marked after one key more was
abbrev IsAfter : List Bool → ℕ → ℕ → Type 0
IsAfter marks key k = ((k ≡ key) × IsMarked (slice_set marks key true) k)
    ⊎ ((k ≢ key) × (slice_index_or (slice_set marks key true) k false ≡ slice_index_or marks k false))

mark-after : (marks : List Bool) (key k : ℕ) → key < length marks → IsAfter marks key k
mark-after marks key k within = by_key (eqb_tells k key)
  where
    by_key : ((◌≡◌ (k == key) true) × (k ≡ key)) ⊎ ((◌≡◌ (k == key) false) × (k ≢ key)) → IsAfter marks key k
    by_key (inl same) = inl (same.1, rw same.1 (get_or-set_same marks key true false within))
    by_key (inr apart) = inr (apart.1, get_or-set_other marks key k true false apart.1)

-- ---- keys added

-- a key that isn't found yet
pub adds-new : (key : ℕ) (old new : ReachedNodes) → IsListed old → key < length old.marks.items → slice_index_or old.marks.items key false ≡ false
    → new.marks.items ≡ slice_set old.marks.items key true → new.keys.items ≡ old.keys.items ++ key ∷ [] → Adds (key ∷ []) old new
adds-new key old new listed within unmarked marks keys = record {
  listed = record {
    marked = λ k has. rw marks (marked k (mark-after old.marks.items key k within) (Contains-push_cases old.keys.items key k (rw keys at has)));
    listed = λ k m. rw keys (was k (mark-after old.marks.items key k within) (rw marks at m));
    once = rw keys (once-push old.keys.items key listed.once (λ has. let no : ◌≡◌ {A = Bool} false true = sym unmarked ∙ listed.marked key has in absurd (cc)));
  };
  places = ap (length {A = Bool}) marks ∙ length-set old.marks.items key true;
  later = key ∷ [];
  behind = keys;
  kept = λ k m. rw marks (kept k m (mark-after old.marks.items key k within));
  there = λ k has. rw marks (there k has);
  only = λ k m. only k (mark-after old.marks.items key k within) (rw marks at m);
}
  where
    after : List Bool
    after = slice_set old.marks.items key true

    kept : (k : ℕ) → IsMarked old.marks.items k → IsAfter old.marks.items key k → IsMarked after k
    kept k m (inl same) = same.1
    kept k m (inr apart) = apart.1 ∙ m

    marked : (k : ℕ) → IsAfter old.marks.items key k → Contains old.keys.items k ⊎ (key ≡ k) → IsMarked after k
    marked k (inl same) has = same.1
    marked k (inr apart) (inl has) = apart.1 ∙ listed.marked k has
    marked k (inr apart) (inr same) = absurd (apart.0 (sym same))

    was : (k : ℕ) → IsAfter old.marks.items key k → IsMarked after k → Contains (old.keys.items ++ key ∷ []) k
    was k (inl same) m = subst (Contains (old.keys.items ++ key ∷ [])) (sym same.0) (Contains-push old.keys.items key)
    was k (inr apart) m = Contains-append_left old.keys.items (key ∷ []) k (listed.listed k (sym apart.1 ∙ m))

    there : (k : ℕ) → Contains (key ∷ []) k → IsMarked after k
    there k (zero, low, same) = subst (IsMarked after) same (get_or-set_same old.marks.items key true false within)
    there k (suc i, low, same) = absurd (omega (arith, low))

    only : (k : ℕ) → IsAfter old.marks.items key k → IsMarked after k → IsMarked old.marks.items k ⊎ Contains (key ∷ []) k
    only k (inl same) m = inr (0, omega arith, sym same.0)
    only k (inr apart) m = inl (sym apart.1 ∙ m)

-- some keys, and then others
pub adds-more : (keys more : List ℕ) (old mid new : ReachedNodes) → Adds keys old mid → Adds more mid new → Adds (keys ++ more) old new
adds-more keys more old mid new a b = record {
  listed = b.listed;
  places = b.places ∙ a.places;
  later = a.later ++ b.later;
  behind = b.behind ∙ ap (λ (front : List ℕ). front ++ b.later) a.behind ∙ append_assoc old.keys.items a.later b.later;
  kept = λ k m. b.kept k (a.kept k m);
  there = λ k has. there k (Contains-append_cases keys more k has);
  only = λ k m. only k (b.only k m);
}
  where
    there : (k : ℕ) → Contains keys k ⊎ Contains more k → IsMarked new.marks.items k
    there k (inl has) = b.kept k (a.there k has)
    there k (inr has) = b.there k has

    before : (k : ℕ) → IsMarked old.marks.items k ⊎ Contains keys k → IsMarked old.marks.items k ⊎ Contains (keys ++ more) k
    before k (inl m) = inl m
    before k (inr has) = inr (Contains-append_left keys more k has)

    only : (k : ℕ) → IsMarked mid.marks.items k ⊎ Contains more k → IsMarked old.marks.items k ⊎ Contains (keys ++ more) k
    only k (inl m) = before k (a.only k m)
    only k (inr has) = inr (Contains-append_right keys more k has)

-- ---- the next key of a list, and the next name

pub item-there : (keys : List ℕ) (i : ℕ) → i < length keys → Contains keys (slice_index_or keys i 0)
item-there [] i low = absurd (omega (arith, low))
item-there (key ∷ keys) zero low = (0, omega arith, refl)
item-there (key ∷ keys) (suc i) low = contains-later key keys (slice_index_or keys i 0) (item-there keys i (omega (arith, low)))

pub adds-next : (keys : List ℕ) (i : ℕ) (old mid new : ReachedNodes) → i < length keys → Adds (take i keys) old mid
    → Adds (slice_index_or keys i 0 ∷ []) mid new
    → Adds (take (i + 1) keys) old new
adds-next keys i old mid new low a b =
    subst (λ (added : List ℕ). Adds added old new) (sym (take_more keys i 0 low)) (adds-more (take i keys) (slice_index_or keys i 0 ∷ []) old mid new a b)

pub name-there : (names : List NamedNode) (i : ℕ) (d : NamedNode) → i < length names → Contains (keys_of names) (slice_index_or names i d).key
name-there [] i d low = absurd (omega (arith, low))
name-there (name ∷ names) zero d low = (0, omega arith, refl)
name-there (name ∷ names) (suc i) d low = contains-later name.key (keys_of names) (slice_index_or names i d).key (name-there names i d (omega (arith, low)))

pub adds-next-name : (names : List NamedNode) (i : ℕ) (d : NamedNode) (old mid new : ReachedNodes) → i < length names → Adds (keys_of (take i names)) old mid
    → Adds ((slice_index_or names i d).key ∷ []) mid new
    → Adds (keys_of (take (i + 1) names)) old new
adds-next-name names i d old mid new low a b =
    let more : keys_of (take (i + 1) names) ≡ keys_of (take i names) ++ (slice_index_or names i d).key ∷ [] =
    ap (λ (ns : List NamedNode). keys_of ns) (take_more names i d low) ∙ map-append (λ (name : NamedNode). name.key) (take i names)
    (slice_index_or names i d ∷ []) in
    subst (λ (added : List ℕ). Adds added old new) (sym more) (adds-more (keys_of (take i names)) ((slice_index_or names i d).key ∷ []) old mid new a b)

-- nothing is added yet
pub adds-none : (old : ReachedNodes) → IsListed old → Adds [] old old
adds-none old listed = record {
  listed = listed;
  places = refl;
  later = [];
  behind = sym (append-nil old.keys.items);
  kept = λ key marked. marked;
  there = λ key has. absurd (omega (arith, has.1));
  only = λ key marked. inl marked;
}

-- all keys are added, and those of all names
pub adds-all : (keys : List ℕ) (i : ℕ) (old new : ReachedNodes) → length keys ≤ i → Adds (take i keys) old new → Adds keys old new
adds-all keys i old new whole adds = subst (λ (added : List ℕ). Adds added old new) (take_all i keys whole) adds

pub adds-all-names : (names : List NamedNode) (i : ℕ) (old new : ReachedNodes) → length names ≤ i → Adds (map (λ name. name.key) (take i names)) old new
    → Adds (map (λ name. name.key) names) old new
adds-all-names names i old new whole adds = subst (λ (ns : List NamedNode). Adds (map (λ name. name.key) ns) old new) (take_all i names whole) adds
