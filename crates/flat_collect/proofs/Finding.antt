-- What is found is what is reached.
use Rattle.std.proofs.Common.{ℕ, zero, suc, ◌+◌, ◌-◌, ◌<◌, ◌≤◌, ◌≡◌, ◌⊎◌, inl, inr, refl, sym, ◌∙◌, ap, subst, List, [], ◌∷◌, ◌++◌, length, Option, Some, None}
use Rattle.std.proofs.Common.{slice_get, slice_index_or, arith, length-append}
use Rattle.std.specs.Prelude.{is_some, count_by, option_to_list}
use Rattle.std.specs.List.{Contains}
use Rattle.std.proofs.lemmas.Bool.{cases_lt}
use Rattle.std.proofs.lemmas.Option.{slice_get_read, slice_get_within}
use Rattle.flat_scene.specs.Cycles.{Walk}
use Rattle.flat_graph.specs.Reasons.{links_in}
use Rattle.flat_graph.specs.State.{GraphState, IsKept, IsMarked, IsSound}
use Rattle.flat_collect.specs.declared.reached_nodes.ReachedNodes.{ReachedNodes}
use Rattle.flat_collect.specs.Marking.{Adds, AreReached, IsFinding, IsListed}
use Rattle.flat_collect.specs.Sweep.{IsReached, IsStart}
use Rattle.flat_collect.proofs.Counting.{keys_of, listed-named, named-listed, no-more}
use Rattle.flat_collect.proofs.Searches.{child_kept}
use Rattle.flat_collect.proofs.Walks.{at_contained, contains_at, walk-more}

-- a root is the key that is listed
pub root-listed : (root : Option ℕ) (key : ℕ) → root ≡ Some key → Contains (option_to_list root) key
root-listed None key e = absurd (cc)
root-listed (Some k) key e = let same : k ≡ key = cc in (0, omega arith, same)

pub listed-root : (root : Option ℕ) (key : ℕ) → Contains (option_to_list root) key → root ≡ Some key
listed-root None key has = let no : has.0 < 0 = has.1 in absurd (omega arith)
listed-root (Some k) key (zero, low, same) = ap Some same
listed-root (Some k) key (suc i, low, same) = absurd (omega (arith, low))

module _ (graph : GraphState) where
  -- ---- what is reached

  pub reached-start : (key : ℕ) → IsStart graph key → IsReached graph key
  reached-start key starts = record { start = key; is_start = starts; steps = 0; walk = refl }

  pub reached-child : (key child : ℕ) → IsReached graph key → Contains (links_in graph key) child → IsReached graph child
  reached-child key child reached has =
      record {
        start = reached.start;
        is_start = reached.is_start;
        steps = suc reached.steps;
        walk = walk-more (links_in graph) reached.steps reached.start key child reached.walk has;
      }

  pub start-kept : (key : ℕ) → IsSound graph → IsStart graph key → IsKept graph.nodes key
  start-kept key sound (inl root) = sound.root_kept key root
  start-kept key sound (inr named) = sound.names_kept named.0 key named.1

  walk-kept : (steps a b : ℕ) → IsSound graph → IsKept graph.nodes a → Walk (links_in graph) steps a b → IsKept graph.nodes b
  walk-kept zero a b sound kept e = subst (IsKept graph.nodes) e kept
  walk-kept (suc steps) a b sound kept walk = walk-kept steps walk.0 b sound (child_kept graph sound a walk.0 walk.1) walk.2

  pub reached-kept : (key : ℕ) → IsSound graph → IsReached graph key → IsKept graph.nodes key
  reached-kept key sound reached = walk-kept reached.steps reached.start key sound (start-kept reached.start sound reached.is_start) reached.walk

  -- ---- the first step

  pub root-start : (key : ℕ) → Contains (option_to_list graph.root) key → IsStart graph key
  root-start key has = inl (listed-root graph.root key has)

  pub name-start : (key : ℕ) → IsSound graph → Contains (keys_of graph.names) key → IsStart graph key
  name-start key sound has = inr (listed-named graph.names sound.rising key has)

  pub finding-begin : (empty rooted found : ReachedNodes) → IsSound graph → ((key : ℕ) → IsKept graph.nodes key → key < length empty.marks.items)
      → empty.keys.items ≡ [] → IsListed empty
      → Adds (option_to_list graph.root) empty rooted → Adds (keys_of graph.names) rooted found → IsFinding graph found 0
  finding-begin empty rooted found sound within none listed a b = record {
    listed = b.listed;
    covers = λ key kept. let low : key < length empty.marks.items = within key kept in rw (b.places, a.places) low;
    starts = starts;
    reached = λ key marked. reached-start key (from_names key (b.only key marked));
    closed = λ i key child less is has. absurd (omega arith);
    within = omega arith;
  }
    where
      starts : (key : ℕ) → IsStart graph key → IsMarked found.marks.items key
      starts key (inl root) = b.kept key (a.there key (root-listed graph.root key root))
      starts key (inr named) = b.there key (named-listed graph.names named.0 key named.1)

      from_root : (key : ℕ) → IsMarked empty.marks.items key ⊎ Contains (option_to_list graph.root) key → IsStart graph key
      from_root key (inl marked) =
          let has : Contains [] key = subst (λ (keys : List ℕ). Contains keys key) none (listed.listed key marked) in
          let no : has.0 < 0 = has.1 in
          absurd (omega arith)
      from_root key (inr has) = root-start key has

      from_names : (key : ℕ) → IsMarked rooted.marks.items key ⊎ Contains (keys_of graph.names) key → IsStart graph key
      from_names key (inl marked) = from_root key (a.only key marked)
      from_names key (inr has) = name-start key sound has

  -- ---- the children of one key more

  get-left : (xs ys : List ℕ) (i : ℕ) → i < length xs → slice_get (xs ++ ys) i ≡ slice_get xs i
  get-left [] ys i low = absurd (omega arith)
  get-left (x ∷ xs) ys zero low = refl
  get-left (x ∷ xs) ys (suc i) low = get-left xs ys i (omega (arith, low))

  pub finding-more : (old new : ReachedNodes) (done key : ℕ) → IsFinding graph old done → slice_get old.keys.items done ≡ Some key
      → Adds (links_in graph key) old new → IsFinding graph new (done + 1)
  finding-more old new done key f next adds = record {
    listed = adds.listed;
    covers = λ k kept. let low : k < length old.marks.items = f.covers k kept in rw adds.places low;
    starts = λ k starts. adds.kept k (f.starts k starts);
    reached = λ k marked. by_sort k (adds.only k marked);
    closed = λ i k child less is has. closed i k child less (cases_lt i done) (sym (same i less) ∙ is) has;
    within = let low : done < length old.keys.items = slice_get_within old.keys.items done key next in
        rw (adds.behind, length-append old.keys.items adds.later) (omega (arith, low));
  }
    where
      by_sort : (k : ℕ) → IsMarked old.marks.items k ⊎ Contains (links_in graph key) k → IsReached graph k
      by_sort k (inl marked) = f.reached k marked
      by_sort k (inr has) = reached-child key k (f.reached key (f.listed.marked key (contains_at old.keys.items done key next))) has

      same : (i : ℕ) → i < done + 1 → slice_get new.keys.items i ≡ slice_get old.keys.items i
      same i less =
          let low : done < length old.keys.items = slice_get_within old.keys.items done key next in
          ap (λ (keys : List ℕ). slice_get keys i) adds.behind ∙ get-left old.keys.items adds.later i (omega (arith, low, less))

      closed : (i k child : ℕ) → i < done + 1 → (i < done) ⊎ (done ≤ i) → slice_get old.keys.items i ≡ Some k → Contains (links_in graph k) child
          → IsMarked new.marks.items child
      closed i k child low (inl less) is has = adds.kept child (f.closed i k child less is has)
      closed i k child low (inr high) is has =
          let last : i ≡ done = omega (arith, low, high) in
          let e : Some key ≡ Some k = sym next ∙ ap (slice_get old.keys.items) (sym last) ∙ is in
          let key_is : key ≡ k = cc in
          adds.there child (subst (λ (n : ℕ). Contains (links_in graph n) child) (sym key_is) has)

  -- ---- the end

  walk-marked : (found : ReachedNodes) → ((key child : ℕ) → IsMarked found.marks.items key → Contains (links_in graph key) child
      → IsMarked found.marks.items child)
      → (steps a b : ℕ) → IsMarked found.marks.items a → Walk (links_in graph) steps a b → IsMarked found.marks.items b
  walk-marked found closed zero a b marked e = subst (IsMarked found.marks.items) e marked
  walk-marked found closed (suc steps) a b marked walk = walk-marked found closed steps walk.0 b (closed a walk.0 marked walk.1) walk.2

  pub finding-end : (found : ReachedNodes) (done : ℕ) → IsFinding graph found done → length found.keys.items ≤ done → AreReached graph found
  finding-end found done f all = record {
    listed = f.listed;
    covers = f.covers;
    marked = λ key reached. walk-marked found closed reached.steps reached.start key (f.starts reached.start reached.is_start) reached.walk;
    reached = f.reached;
  }
    where
      closed : (key child : ℕ) → IsMarked found.marks.items key → Contains (links_in graph key) child → IsMarked found.marks.items child
      closed key child marked has =
          let at : (i : ℕ) × (slice_get found.keys.items i ≡ Some key) = at_contained found.keys.items key (f.listed.listed key marked) in
          let low : at.0 < length found.keys.items = slice_get_within found.keys.items at.0 key at.1 in
          f.closed at.0 key child (omega (arith, low, all)) at.1 has

  -- what is found is no more than the nodes
  pub finding-few : (found : ReachedNodes) (done : ℕ) → IsSound graph → IsFinding graph found done → length found.keys.items ≤ count_by is_some graph.nodes
  finding-few found done sound f = no-more found.keys.items graph.nodes f.listed.once
      (λ key has. reached-kept key sound (f.reached key (f.listed.marked key has)))

  -- the list has more keys, and so there are more nodes
  pub finding-smaller : (found : ReachedNodes) (done : ℕ) → IsSound graph → IsFinding graph found done → done < length found.keys.items
      → count_by is_some graph.nodes - (done + 1) < count_by is_some graph.nodes - done
  finding-smaller found done sound f more = let few : length found.keys.items ≤ count_by is_some graph.nodes =
      finding-few found done sound f in omega (arith, few, more)

pub next-key : (keys : List ℕ) (i key : ℕ) → i < length keys → key ≡ slice_index_or keys i key → slice_get keys i ≡ Some key
next-key keys i key low is = slice_get_read keys (length keys) i key refl low is
