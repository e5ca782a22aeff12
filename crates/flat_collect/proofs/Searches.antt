-- The steps of the search keep what its marks mean.
use Rattle.std.proofs.Common.{ℕ, zero, suc, ◌+◌, ◌<◌, ◌≤◌, ◌≡◌, ◌≢◌, ◌⊎◌, inl, inr, refl, sym, ◌∙◌, true, false, List, [], ◌∷◌, length, Option, Some, None}
use Rattle.std.proofs.Common.{IsSome, slice_get, slice_index_or, slice_set, arith, length-set, add-zero, zero-add, length-append, replicate, ◌++◌}
use Rattle.std.specs.Prelude.{◌==◌}
use Rattle.std.specs.List.{Contains}
use Rattle.std.proofs.lemmas.List.{get_or-set_same, get_or-set_other, reverse-append}
use Rattle.std.proofs.lemmas.Option.{slice_get_within}
use Rattle.std.proofs.lemmas.Bool.Decides.{eqb_tells}
use Rattle.flat_scene.specs.Cycles.{HasCycle}
use Rattle.flat_collect.specs.declared.cycle.SearchMark.{SearchMark}
use Rattle.flat_collect.specs.declared.cycle.SearchMark.TheVariants.{New, Open, Done}
use Rattle.flat_collect.specs.Search.{IsOn, IsSearch, mark_of, work, work_at, left, trail}
use Rattle.flat_graph.specs.declared.nodes.GraphNode.{GraphNode}
use Rattle.flat_graph.specs.Reasons.{links_in}
use Rattle.flat_graph.specs.State.{GraphState, IsKept, IsSound, node_at}
use Rattle.flat_collect.proofs.Walks.{acyclic-children, at_contained, cycle_found}

-- what the mark of a key is after a change of one key's mark
abbrev pub IsAfter : List SearchMark → ℕ → SearchMark → ℕ → Type 0
IsAfter marks key mark other =
    ((other ≡ key) × (mark_of (slice_set marks key mark) other ≡ mark)) ⊎ ((other ≢ key) × (mark_of (slice_set marks key mark) other ≡ mark_of marks other))

pub mark_after : (marks : List SearchMark) (key : ℕ) (mark : SearchMark) (other : ℕ) → key < length marks → IsAfter marks key mark other
mark_after marks key mark other within = by_key (eqb_tells other key)
  where
    by_key : ((◌≡◌ (other == key) true) × (other ≡ key)) ⊎ ((◌≡◌ (other == key) false) × (other ≢ key)) → IsAfter marks key mark other
    by_key (inl same) = inl (same.1, rw same.1 (get_or-set_same marks key mark New within))
    by_key (inr apart) = inr (apart.1, get_or-set_other marks key other mark New apart.1)

none_past : (xs : List ℕ) (i : ℕ) → slice_get xs i ≡ None → length xs ≤ i
none_past [] i h = omega arith
none_past (x ∷ xs) zero h = absurd (cc)
none_past (x ∷ xs) (suc i) h = let step : length xs ≤ i = none_past xs i h in omega arith

module _ (links : ℕ → List ℕ) (root : ℕ) where
  -- the key at the top is a place
  pub top_within : (marks : List SearchMark) (key : ℕ) (below : List ℕ) → IsSearch links root marks (key ∷ below) → key < length marks
  top_within marks key [] s = rw s.ways.0 s.start
  top_within marks key (parent ∷ below) s = s.within parent key s.ways.0

  -- a new child comes onto the path
  pub search-down : (marks : List SearchMark) (key child : ℕ) (below : List ℕ) → IsSearch links root marks (key ∷ below) → Contains (links key) child
      → mark_of marks child ≡ New
      → IsSearch links root (slice_set marks child (Open 0)) (child ∷ key ∷ below)
  search-down marks key child below s has new = record {
    within = λ k c h. rw length-set (s.within k c h);
    start = rw length-set s.start;
    ways = (has, s.ways);
    open_on = λ k i h. open_on k i h (after k);
    so_far = λ k i j c h less is. so_far k i j c h less is (after k) (after c);
    done = λ k h. done k h (after k);
    rooted = λ h. rooted h (after root);
  }
    where
      after : (k : ℕ) → IsAfter marks child (Open 0) k
      after k = mark_after marks child (Open 0) k (s.within key child has)

      open_on : (k i : ℕ) → mark_of (slice_set marks child (Open 0)) k ≡ Open i → IsAfter marks child (Open 0) k → IsOn k (child ∷ key ∷ below)
      open_on k i h (inl same) = inl same.0
      open_on k i h (inr apart) = inr (s.open_on k i (sym apart.1 ∙ h))

      so_far : (k i j c : ℕ) → mark_of (slice_set marks child (Open 0)) k ≡ Open i → j < i → slice_get (links k) j ≡ Some c
          → IsAfter marks child (Open 0) k → IsAfter marks child (Open 0) c → mark_of (slice_set marks child (Open 0)) c ≡ Done
      so_far k i j c h less is (inl same) other = let e : Open 0 ≡ Open i = sym same.1 ∙ h in let z : 0 ≡ i = cc in absurd (omega arith)
      so_far k i j c h less is (inr apart) (inl same) =
          let e : mark_of marks c ≡ Done = s.so_far k i j c (sym apart.1 ∙ h) less is in
          let f : mark_of marks c ≡ New = rw same.0 new in
          let g : Done ≡ New = sym e ∙ f in
          absurd (cc)
      so_far k i j c h less is (inr apart) (inr other) = other.1 ∙ s.so_far k i j c (sym apart.1 ∙ h) less is

      done : (k : ℕ) → mark_of (slice_set marks child (Open 0)) k ≡ Done → IsAfter marks child (Open 0) k → ¬ HasCycle links k
      done k h (inl same) = let e : Open 0 ≡ Done = sym same.1 ∙ h in absurd (cc)
      done k h (inr apart) = s.done k (sym apart.1 ∙ h)

      rooted : mark_of (slice_set marks child (Open 0)) root ≡ New → IsAfter marks child (Open 0) root → ⊥
      rooted h (inl same) = let e : Open 0 ≡ New = sym same.1 ∙ h in absurd (cc)
      rooted h (inr apart) = s.rooted (sym apart.1 ∙ h)

  -- one child more of the key at the top is done
  pub search-along : (marks : List SearchMark) (key i child : ℕ) (below : List ℕ) → IsSearch links root marks (key ∷ below) → mark_of marks key ≡ Open i
      → slice_get (links key) i ≡ Some child → mark_of marks child ≡ Done → IsSearch links root (slice_set marks key (Open (i + 1))) (key ∷ below)
  search-along marks key i child below s opened next finished = record {
    within = λ k c h. rw length-set (s.within k c h);
    start = rw length-set s.start;
    ways = s.ways;
    open_on = λ k i' h. open_on k i' h (after k);
    so_far = λ k i' j c h less is. still c (so_far k i' j c h less is (after k)) (after c);
    done = λ k h. done k h (after k);
    rooted = λ h. rooted h (after root);
  }
    where
      after : (k : ℕ) → IsAfter marks key (Open (i + 1)) k
      after k = mark_after marks key (Open (i + 1)) k (top_within marks key below s)

      open_on : (k i' : ℕ) → mark_of (slice_set marks key (Open (i + 1))) k ≡ Open i' → IsAfter marks key (Open (i + 1)) k → IsOn k (key ∷ below)
      open_on k i' h (inl same) = inl same.0
      open_on k i' h (inr apart) = s.open_on k i' (sym apart.1 ∙ h)

      -- what was done stays done
      still : (c : ℕ) → mark_of marks c ≡ Done → IsAfter marks key (Open (i + 1)) c → mark_of (slice_set marks key (Open (i + 1))) c ≡ Done
      still c h (inl same) = let f : mark_of marks c ≡ Open i = rw same.0 opened in let g : Done ≡ Open i = sym h ∙ f in absurd (cc)
      still c h (inr apart) = apart.1 ∙ h

      so_far : (k i' j c : ℕ) → mark_of (slice_set marks key (Open (i + 1))) k ≡ Open i' → j < i' → slice_get (links k) j ≡ Some c
          → IsAfter marks key (Open (i + 1)) k → mark_of marks c ≡ Done
      so_far k i' j c h less is (inl same) =
          let e : Open (i + 1) ≡ Open i' = sym same.1 ∙ h in
          let z : i + 1 ≡ i' = cc in
          at_child (rw same.0 at is) (eqb_tells j i)
        where
          at_child : slice_get (links key) j ≡ Some c → ((◌≡◌ (j == i) true) × (j ≡ i)) ⊎ ((◌≡◌ (j == i) false) × (j ≢ i)) → mark_of marks c ≡ Done
          at_child is' (inl last) = let f : Some c ≡ Some child = sym is' ∙ rw last.1 next in let g : c ≡ child = cc in rw g finished
          at_child is' (inr other) = s.so_far key i j c opened
              (let e : Open (i + 1) ≡ Open i' = sym same.1 ∙ h in let z : i + 1 ≡ i' = cc in omega (arith, other.1)) is'
      so_far k i' j c h less is (inr apart) = s.so_far k i' j c (sym apart.1 ∙ h) less is

      done : (k : ℕ) → mark_of (slice_set marks key (Open (i + 1))) k ≡ Done → IsAfter marks key (Open (i + 1)) k → ¬ HasCycle links k
      done k h (inl same) = let e : Open (i + 1) ≡ Done = sym same.1 ∙ h in absurd (cc)
      done k h (inr apart) = s.done k (sym apart.1 ∙ h)

      rooted : mark_of (slice_set marks key (Open (i + 1))) root ≡ New → IsAfter marks key (Open (i + 1)) root → ⊥
      rooted h (inl same) = let e : Open (i + 1) ≡ New = sym same.1 ∙ h in absurd (cc)
      rooted h (inr apart) = s.rooted (sym apart.1 ∙ h)

  -- all children of the key at the top are done
  pub search-done : (marks : List SearchMark) (key i : ℕ) (below : List ℕ) → IsSearch links root marks (key ∷ below) → mark_of marks key ≡ Open i
      → slice_get (links key) i ≡ None → IsSearch links root (slice_set marks key Done) (key ∷ below)
  search-done marks key i below s opened none = record {
    within = λ k c h. rw length-set (s.within k c h);
    start = rw length-set s.start;
    ways = s.ways;
    open_on = λ k i' h. open_on k i' h (after k);
    so_far = λ k i' j c h less is. so_far k i' j c h less is (after k) (after c);
    done = λ k h. done k h (after k);
    rooted = λ h. rooted h (after root);
  }
    where
      after : (k : ℕ) → IsAfter marks key Done k
      after k = mark_after marks key Done k (top_within marks key below s)

      open_on : (k i' : ℕ) → mark_of (slice_set marks key Done) k ≡ Open i' → IsAfter marks key Done k → IsOn k (key ∷ below)
      open_on k i' h (inl same) = inl same.0
      open_on k i' h (inr apart) = s.open_on k i' (sym apart.1 ∙ h)

      so_far : (k i' j c : ℕ) → mark_of (slice_set marks key Done) k ≡ Open i' → j < i' → slice_get (links k) j ≡ Some c
          → IsAfter marks key Done k → IsAfter marks key Done c → mark_of (slice_set marks key Done) c ≡ Done
      so_far k i' j c h less is (inl same) other = let e : Done ≡ Open i' = sym same.1 ∙ h in absurd (cc)
      so_far k i' j c h less is (inr apart) (inl same) = same.1
      so_far k i' j c h less is (inr apart) (inr other) = other.1 ∙ s.so_far k i' j c (sym apart.1 ∙ h) less is

      past : (j c : ℕ) → slice_get (links key) j ≡ Some c → j < i
      past j c is =
          let within : j < length (links key) = slice_get_within (links key) j c is in
          let end : length (links key) ≤ i = none_past (links key) i none in
          omega arith

      below_done : (c : ℕ) → Contains (links key) c → ¬ HasCycle links c
      below_done c has =
          let at : (j : ℕ) × (slice_get (links key) j ≡ Some c) = at_contained (links key) c has in
          s.done c (s.so_far key i at.0 c opened (past at.0 c at.1) at.1)

      done : (k : ℕ) → mark_of (slice_set marks key Done) k ≡ Done → IsAfter marks key Done k → ¬ HasCycle links k
      done k h (inl same) = rw same.0 (acyclic-children links key below_done)
      done k h (inr apart) = s.done k (sym apart.1 ∙ h)

      rooted : mark_of (slice_set marks key Done) root ≡ New → IsAfter marks key Done root → ⊥
      rooted h (inl same) = let e : Done ≡ New = sym same.1 ∙ h in absurd (cc)
      rooted h (inr apart) = s.rooted (sym apart.1 ∙ h)

  -- the search goes back from a key that isn't open
  pub search-back : (marks : List SearchMark) (key parent : ℕ) (below : List ℕ) → IsSearch links root marks (key ∷ parent ∷ below)
      → ((i : ℕ) → mark_of marks key ≡ Open i → ⊥) → IsSearch links root marks (parent ∷ below)
  search-back marks key parent below s closed = record {
    within = s.within;
    start = s.start;
    ways = s.ways.1;
    so_far = s.so_far;
    done = s.done;
    rooted = s.rooted;
    open_on = λ k i h. off k i h (s.open_on k i h);
  }
    where
      off : (k i : ℕ) → mark_of marks k ≡ Open i → IsOn k (key ∷ parent ∷ below) → IsOn k (parent ∷ below)
      off k i h (inl same) = absurd (closed i (rw same at h))
      off k i h (inr on) = on

  -- the search ends at a key that isn't open, with nothing below it
  pub search-end : (marks : List SearchMark) (key : ℕ) → IsSearch links root marks (key ∷ []) → ((i : ℕ) → mark_of marks key ≡ Open i → ⊥)
      → ¬ HasCycle links root
  search-end marks key s closed = s.done root (by_mark (mark_of marks root) refl)
    where
      by_mark : (mark : SearchMark) → mark ≡ mark_of marks root → mark_of marks root ≡ Done
      by_mark New e = absurd (s.rooted (sym e))
      by_mark (Open i) e = absurd (closed i (rw s.ways.0 (sym e)))
      by_mark Done e = sym e

  -- a child that is open closes a cycle
  pub search-found : (marks : List SearchMark) (key i child : ℕ) (below : List ℕ) → IsSearch links root marks (key ∷ below) → Contains (links key) child
      → mark_of marks child ≡ Open i → HasCycle links root
  search-found marks key i child below s has opened = cycle_found links root child key below s.ways (s.open_on child i opened) has

-- ---- what is left to do

module _ (links : ℕ → List ℕ) where
  pub work-set : (from : ℕ) (marks : List SearchMark) (key : ℕ) (mark : SearchMark) → key < length marks
      → work links from (slice_set marks key mark) + work_at (length (links (from + key))) (mark_of marks key)
      ≡ work links from marks + work_at (length (links (from + key))) mark
  work-set from [] key mark within = absurd (omega arith)
  work-set from (m ∷ marks) zero mark within = rw add-zero (omega arith)
  work-set from (m ∷ marks) (suc key) mark within =
      let step = work-set (suc from) marks key mark (omega arith) in
      let same : from + suc key ≡ suc from + key = omega arith in
      rw same (omega (arith, step))

  pub work-less : (marks : List SearchMark) (key : ℕ) (old new : SearchMark) → key < length marks → mark_of marks key ≡ old
      → work_at (length (links key)) new < work_at (length (links key)) old → work links 0 (slice_set marks key new) < work links 0 marks
  work-less marks key old new within is less =
      let step = rw (zero-add key, is) at (work-set 0 marks key new within) in
      omega (arith, step, less)

  pub left-down : (marks : List SearchMark) (path : List ℕ) (key child : ℕ) → child < length marks → mark_of marks child ≡ New
      → left links (slice_set marks child (Open 0)) (path ++ key ∷ []) < left links marks path
  left-down marks path key child within new =
      let step : work links 0 (slice_set marks child (Open 0)) < work links 0 marks = work-less marks child New (Open 0) within new (omega arith) in
      omega (arith, step, length-append path (key ∷ []))

  pub left-along : (marks : List SearchMark) (path : List ℕ) (key i child : ℕ) → key < length marks → mark_of marks key ≡ Open i
      → slice_get (links key) i ≡ Some child
      → left links (slice_set marks key (Open (i + 1))) path < left links marks path
  left-along marks path key i child within opened next =
      let inside : i < length (links key) = slice_get_within (links key) i child next in
      let step : work links 0 (slice_set marks key (Open (i + 1))) < work links 0 marks =
      work-less marks key (Open i) (Open (i + 1)) within opened (omega arith) in
      omega (arith, step)

  pub left-done : (marks : List SearchMark) (path : List ℕ) (key i : ℕ) → key < length marks → mark_of marks key ≡ Open i
      → left links (slice_set marks key Done) path < left links marks path
  left-done marks path key i within opened =
      let step : work links 0 (slice_set marks key Done) < work links 0 marks = work-less marks key (Open i) Done within opened (omega arith) in
      omega (arith, step)

pub trail-back : (key parent : ℕ) (before after : List ℕ) → before ≡ after ++ parent ∷ [] → trail key before ≡ key ∷ trail parent after
trail-back key parent before after e = rw (e, reverse-append)

pub trail-down : (key child : ℕ) (path : List ℕ) → trail child (path ++ key ∷ []) ≡ child ∷ trail key path
trail-down key child path = rw reverse-append

get_or_any : (marks : List SearchMark) (key : ℕ) (d e : SearchMark) → key < length marks → slice_index_or marks key d ≡ slice_index_or marks key e
get_or_any [] key d e within = absurd (omega arith)
get_or_any (m ∷ marks) zero d e within = refl
get_or_any (m ∷ marks) (suc key) d e within = get_or_any marks key d e (omega arith)

-- a mark that was read
pub mark_read : (marks : List SearchMark) (key : ℕ) (mark : SearchMark) → key < length marks → mark ≡ slice_index_or marks key mark → mark_of marks key ≡ mark
mark_read marks key mark within e = get_or_any marks key New mark within ∙ sym e

-- the search begins at the root alone
pub search-begin : (links : ℕ → List ℕ) (root : ℕ) (marks : List SearchMark) → ((key : ℕ) → mark_of marks key ≡ New)
    → ((key child : ℕ) → Contains (links key) child → child < length marks)
    → root < length marks → IsSearch links root (slice_set marks root (Open 0)) (root ∷ [])
search-begin links root marks new within start = record {
  within = λ k c h. rw length-set (within k c h);
  start = rw length-set start;
  ways = (refl, tt);
  open_on = λ k i h. open_on k i h (after k);
  so_far = λ k i j c h less is. so_far k i j c h less (after k);
  done = λ k h. done k h (after k);
  rooted = λ h. rooted h (after root);
}
  where
    after : (k : ℕ) → IsAfter marks root (Open 0) k
    after k = mark_after marks root (Open 0) k start

    open_on : (k i : ℕ) → mark_of (slice_set marks root (Open 0)) k ≡ Open i → IsAfter marks root (Open 0) k → IsOn k (root ∷ [])
    open_on k i h (inl same) = inl same.0
    open_on k i h (inr apart) = let e : New ≡ Open i = sym (new k) ∙ (sym apart.1 ∙ h) in absurd (cc)

    so_far : (k i j c : ℕ) → mark_of (slice_set marks root (Open 0)) k ≡ Open i → j < i → IsAfter marks root (Open 0) k
        → mark_of (slice_set marks root (Open 0)) c ≡ Done
    so_far k i j c h less (inl same) = let e : Open 0 ≡ Open i = sym same.1 ∙ h in let z : 0 ≡ i = cc in absurd (omega arith)
    so_far k i j c h less (inr apart) = let e : New ≡ Open i = sym (new k) ∙ (sym apart.1 ∙ h) in absurd (cc)

    done : (k : ℕ) → mark_of (slice_set marks root (Open 0)) k ≡ Done → IsAfter marks root (Open 0) k → ¬ HasCycle links k
    done k h (inl same) = let e : Open 0 ≡ Done = sym same.1 ∙ h in absurd (cc)
    done k h (inr apart) = let e : New ≡ Done = sym (new k) ∙ (sym apart.1 ∙ h) in absurd (cc)

    rooted : mark_of (slice_set marks root (Open 0)) root ≡ New → IsAfter marks root (Open 0) root → ⊥
    rooted h (inl same) = let e : Open 0 ≡ New = sym same.1 ∙ h in absurd (cc)
    rooted h (inr apart) = apart.0 refl

pub child_kept : (graph : GraphState) → IsSound graph → (key child : ℕ) → Contains (links_in graph key) child → IsKept graph.nodes child
child_kept graph sound key child has = by_node (node_at graph key) refl
  where
    by_node : (node : Option GraphNode) → node ≡ node_at graph key → IsKept graph.nodes child
    by_node None e = let none = rw (← e) at has in let no : none.0 < 0 = none.1 in absurd (omega arith)
    by_node (Some node) e = sound.children_kept key node (sym e) child (rw (← e) at has)

pub links_within : (graph : GraphState) (places : ℕ) → IsSound graph → ((key : ℕ) → IsSome (node_at graph key) → key < places)
    → (key child : ℕ) → Contains (links_in graph key) child → child < places
links_within graph places sound above key child has = above child (child_kept graph sound key child has)

pub new_marks : (n key : ℕ) → mark_of (replicate n New) key ≡ New
new_marks zero key = refl
new_marks (suc n) zero = refl
new_marks (suc n) (suc key) = new_marks n key
