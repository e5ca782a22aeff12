-- What the sessions of a legal history show fits the setup.
use Rattle.std.proofs.Common.{◌≡◌, ◌≢◌, ℕ, zero, suc, ◌-◌, ◌≤◌, Bool, true, false, cond, ◌==◌, List, [], ◌∷◌, ◌++◌, refl, sym, ap, ◌∙◌, subst, arith, Option}
use Rattle.std.proofs.Common.{Some, None, Ok, Err, Result, slice_get, is_none, inl, inr}
use Rattle.std.specs.List.{list_all, AllByRecursion, Contains, AllPairs}
use Rattle.std.specs.Option.{option_map, option_and_then, unwrap_or}
use Rattle.std.specs.Result.{result_ok}
use Rattle.std.proofs.lemmas.Bool.{eqb-true, not-true}
use Rattle.flat_base.specs.declared.ids.Actor.{Actor}
use Rattle.flat_base.specs.declared.ids.Actor.TheVariants.{Session}
use Rattle.flat_base.specs.declared.ids.PairNo.{PairNo}
use Rattle.flat_base.specs.declared.ids.SessionNo.{SessionNo}
use Rattle.flat_base.specs.declared.errors.Reason.{Reason}
use Rattle.flat_base.specs.declared.errors.Reason.TheVariants.{Cycle, TreeTooLarge, ViewportTwice}
use Rattle.flat_base.specs.declared.limits.TheConstants.{OPACITY_MAX, TREE_NODES_MAX}
use Rattle.flat_scene.specs.declared.calls.Call.{Call}
use Rattle.flat_scene.specs.declared.calls.PresentArgs.{PresentArgs}
use Rattle.flat_scene.specs.declared.journal.Entry.{Entry}
use Rattle.flat_scene.specs.declared.journal.EntryKind.{EntryKind}
use Rattle.flat_scene.specs.declared.journal.EntryKind.TheVariants.{Present}
use Rattle.flat_scene.specs.declared.journal.Reply.{Reply}
use Rattle.flat_scene.specs.declared.journal.Reply.TheVariants.{Presented}
use Rattle.flat_scene.specs.declared.setup.PairDecl.{PairDecl}
use Rattle.flat_scene.specs.declared.setup.Setup.{Setup}
use Rattle.flat_scene.specs.declared.trees.Children.{Children}
use Rattle.flat_scene.specs.declared.trees.Tree.{Tree}
use Rattle.flat_scene.specs.Draft.{Draft, Made, an_image, a_fill, a_viewport, of_serial}
use Rattle.flat_scene.specs.Effect.{draft_of}
use Rattle.flat_scene.specs.Frames.{taken}
use Rattle.flat_scene.specs.History.{◌▹◌, is_session, is_closed, calls, presents, published, Published}
use Rattle.flat_scene.specs.Misuse.{first_reason, has_twice}
use Rattle.flat_scene.specs.Setups.{is_declared}
use Rattle.flat_scene.specs.Tree.{tree_tests, present_tests, tree, all_nodes, is_cyclic, is_too_large, shows_twice}
use Rattle.flat_scene.specs.Trees.{node_count, viewports_in}
use Rattle.flat_scene.proofs.lemmas.Steps.{presents-own, presents-other}
use Rattle.flat_base.proofs.lemmas.Tests.{and-left, and-right}
use Rattle.flat_rules.specs.Legal.{Legal, MayEnter, has_tree, owns_view, owns_viewport, session_may}
use Rattle.flat_rules.proofs.lemmas.Refusals.{first-of-more}
use Rattle.flat_rules.specs.Ends.{to_begin}
use Rattle.flat_facts.specs.Lives.{held_of}
use Rattle.flat_rules.specs.Shown.{shown, shown_states, tree_of, last_taken}
use Rattle.flat_facts.proofs.lemmas.Earlier.{begin-earlier, legal-earlier}
use Rattle.flat_facts.proofs.lemmas.LiveCounts.{lived-all}
use Rattle.flat_facts.proofs.lemmas.Lives.{lives_of, pair_made, pair_at}
use Rattle.flat_facts.proofs.LowDrafts.{low-draft}
use Rattle.flat_facts.proofs.LowTrees.{ShowsLow, tree_low, tree_small}
use Rattle.flat_rules.proofs.lemmas.Owned.{IsOwned, made_owned, view_owned, draft-owned}
use Rattle.flat_rules.proofs.lemmas.OwnedTree.{at-serial, all-owned, owns}
use Rattle.flat_facts.proofs.ReachedSteps.{reached}
use Rattle.flat_facts.proofs.ShownOnce.{pairs-once}
use Rattle.flat_rules.proofs.lemmas.ShownOwned.{all-calls-owned}
use Rattle.flat_facts.proofs.lemmas.TokenLaw.{counted, live_in}
use Rattle.flat_facts.proofs.lemmas.ViewHistory.{same-session}
use Rattle.flat_topology.proofs.lemmas.Distinct.{In, in-contains, pairs-distinct}
use Rattle.flat_topology.specs.Fit.{FitsSetup, greatest_opacity}
use Rattle.flat_topology.specs.Owners.{OwnsView, OwnsViewport}
use Rattle.flat_topology.specs.Shown.{state_of, view_of, nodes_of, pairs_in}
use Rattle.flat_rules.proofs.lemmas.ShownList.{within-or-past}

-- What is known of a draft that is presented: it names what its session owns, it has a tree, and no two viewports of a pair live.
pub record IsGood (setup : Setup) (s : SessionNo) (calls : List Call) (draft : Draft) : Type 0 where
  pub made : draft_of setup calls ≡ Ok draft
  pub owned : IsOwned setup s draft
  pub tests : first_reason (tree_tests draft) ≡ None
  pub single : (p : PairNo) → owns_viewport setup s p ≡ true → held_of p (lives_of draft) ≤ 1

-- the same of a present
abbrev pub IsSound : Setup → SessionNo → Published → Type 0
IsSound setup s present = (d : Draft) × IsGood setup s present.made d

module _ (setup : Setup) (s : SessionNo) where
  -- ---- presents

  presented : (before : List Entry) (e : Entry) → Legal setup (before ▹ e) → is_session s e.actor ≡ true → (args : PresentArgs) (n k : ℕ)
      → e.kind ≡ Present args → e.reply ≡ Presented n k
      → (r : Result Draft Reason) → draft_of setup (calls s before ++ e.calls) ≡ r → (d : Draft) × IsGood setup s (calls s before ++ e.calls) d
  presented before e legal mine args n k kind reply r is = by_draft r is refl
    where
      who : e.actor ≡ Session s
      who = same-session s e.actor mine

      may : MayEnter setup before (Session s) e.calls (Present args)
      may =
          let M : Actor → Type 0 = λ a. MayEnter setup before a e.calls e.kind in
          let K : EntryKind → Type 0 = λ kind. MayEnter setup before (Session s) e.calls kind in
          subst K kind (subst M who legal.1.may)

      opened : is_closed s before ≡ false
      opened = not-true (is_closed s before) (grind (arith, may.lasts))

      still : is_closed s (before ▹ e) ≡ false
      still = rw (mine, reply) opened

      declared : is_declared setup s ≡ true
      declared = and-right (session_may (Present args)) (is_declared setup s) may.acts

      none_of : (o : Option Reason) → is_none o ≡ true → o ≡ None
      none_of None none = refl
      none_of (Some reason) none = cc

      by_draft : (r : Result Draft Reason) → draft_of setup (calls s before ++ e.calls) ≡ r
          → result_ok (draft_of setup (calls s before ++ e.calls)) ≡ result_ok (draft_of setup (calls s before ++ e.calls))
          → (d : Draft) × IsGood setup s (calls s before ++ e.calls) d
      by_draft (Err reason) made same = let wrong : false ≡ true =
          ap (λ (x : Result Draft Reason). has_tree setup (result_ok x) (Present args)) (sym made) ∙ may.tree in cc
      by_draft (Ok d) made same =
          let fine : is_none (first_reason (present_tests d args)) ≡ true =
          ap (λ (x : Result Draft Reason). has_tree setup (result_ok x) (Present args)) (sym made) ∙ may.tree in
          let all = lived-all setup (calls s before ++ e.calls) d made in
          let here : live_in s (before ▹ e) ≡ lives_of d = rw mine (sym all.lives) in (
            d,
            record {
              made = made;
              owned = draft-owned setup s (calls s before ++ e.calls) (all-calls-owned setup before e legal s mine) d made;
              tests = first-of-more (tree_tests d) _ (none_of (first_reason (present_tests d args)) fine);
              single = λ p owned. let few = (counted setup s p owned declared (before ▹ e) legal still).few in rw here at few;
            },
          )

  published-sound : (before : List Entry) (e : Entry) → Legal setup (before ▹ e) → is_session s e.actor ≡ true → (kind : EntryKind) (reply : Reply)
      → e.kind ≡ kind
      → e.reply ≡ reply
      → AllByRecursion (IsSound setup s) (published kind reply (calls s before ++ e.calls))
  published-sound before e legal mine (Present args) (Presented n k) kind reply =
      (presented before e legal mine args n k kind reply (draft_of setup (calls s before ++ e.calls)) refl, tt)
  published-sound before e legal mine _ _ kind reply = tt

  all-and : (xs ys : List Published) → AllByRecursion (IsSound setup s) xs → AllByRecursion (IsSound setup s) ys → AllByRecursion (IsSound setup s) (xs ++ ys)
  all-and [] ys first second = second
  all-and (x ∷ xs) ys first second = (first.0, all-and xs ys first.1 second)

  pub presents-sound : (history : List Entry) → Legal setup history → AllByRecursion (IsSound setup s) (presents s history)
  presents-sound [] legal = tt
  presents-sound (before ▹ e) legal = by_owner (presents-sound before legal.0) (is_session s e.actor) refl
    where
      by_owner : AllByRecursion (IsSound setup s) (presents s before) → (b : Bool) → is_session s e.actor ≡ b
          → AllByRecursion (IsSound setup s) (presents s (before ▹ e))
      by_owner old true mine =
          subst (AllByRecursion (IsSound setup s)) (sym (presents-own s before e mine))
          (all-and (presents s before) (published e.kind e.reply (calls s before ++ e.calls)) old
          (published-sound before e legal mine e.kind e.reply refl refl))
      by_owner old false other = subst (AllByRecursion (IsSound setup s)) (sym (presents-other s before e other)) old

  -- ---- what is shown

  -- What is known of a tree that is shown.
  pub record IsWell (t : Tree) : Type 0 where
    pub calls : List Call
    pub draft : Draft
    pub good : IsGood setup s calls draft
    pub tree : tree draft ≡ Some t
    pub low : ShowsLow draft t

  abbrev pub ShownWell : Option Tree → Type 0
  ShownWell None = Unit {0}
  ShownWell (Some t) = IsWell t

  well-tree : (calls : List Call) (d : Draft) → IsGood setup s calls d → (o : Option Tree) → tree d ≡ o → ShownWell o
  well-tree calls d good None is = tt
  well-tree calls d good (Some t) is = record { calls = calls; draft = d; good = good; tree = is; low = tree_low d t (low-draft setup d calls good.made) is }

  well-present : (present : Published) → IsSound setup s present → ShownWell (tree_of setup present)
  well-present present sound =
      let is : tree_of setup present ≡ tree sound.0 = ap (λ r. option_and_then tree (result_ok r)) sound.1.made in
      subst ShownWell (sym is) (well-tree present.made sound.0 sound.1 (tree sound.0) refl)

  abbrev pub MaySound : Option Published → Type 0
  MaySound None = Unit {0}
  MaySound (Some present) = IsSound setup s present

  pick-sound : (b : Bool) (p : Published) (o : Option Published) → IsSound setup s p → MaySound o → MaySound (cond b (Some p) o)
  pick-sound true p o first others = first
  pick-sound false p o first others = others

  pub found-sound : (n : ℕ) (ps : List Published) → AllByRecursion (IsSound setup s) ps → MaySound (of_serial ps n)
  found-sound n [] all = tt
  found-sound n (p ∷ ps) all = pick-sound (n == 1) p (of_serial ps (n - 1)) all.0 (found-sound (n - 1) ps all.1)

  well-last : (o : Option Published) → MaySound o → ShownWell (option_and_then (tree_of setup) o)
  well-last None sound = tt
  well-last (Some present) sound = well-present present sound

  well-open : (b : Bool) (o : Option Tree) → ShownWell o → ShownWell (cond b None o)
  well-open true o well = tt
  well-open false o well = well

  pub shown-well : (history : List Entry) → Legal setup history → ShownWell (shown setup history s)
  shown-well history legal = well-open (is_closed s history) _
      (well-last (last_taken setup history s) (found-sound (taken setup history s) (presents s history) (presents-sound history legal)))

  -- ---- what a state must meet

  owner-is : (p : PairNo) → owns_view setup s p ≡ true → OwnsView setup s.0 p.0
  owner-is p owned = by_pair (slice_get setup.pairs p.0) refl owned
    where
      by_pair : (o : Option PairDecl) → slice_get setup.pairs p.0 ≡ o
          → unwrap_or (option_map (λ t. t.0 == s.0) (option_map (λ (pair : PairDecl). pair.view) o)) false ≡ true → OwnsView setup s.0 p.0
      by_pair None is h = cc
      by_pair (Some pair) is h = (pair, is, ap (λ n. let t : SessionNo = record { 0 = n } in t) (eqb-true pair.view.0 s.0 h))

  viewport-is : (n : ℕ) → owns setup s n ≡ true → OwnsViewport setup s.0 n
  viewport-is n owned = by_pair (slice_get setup.pairs n) refl owned
    where
      by_pair : (o : Option PairDecl) → slice_get setup.pairs n ≡ o
          → unwrap_or (option_map (is_session s) (option_map (λ (pair : PairDecl). pair.viewport) o)) false ≡ true → OwnsViewport setup s.0 n
      by_pair None is h = cc
      by_pair (Some pair) is h = (pair, is, same-session s pair.viewport h)

  -- What a state must meet.
  pub record StateFits (state : Option Tree) : Type 0 where
    pub views : (p : ℕ) → view_of state ≡ Some p → OwnsView setup s.0 p
    pub viewports : (p : ℕ) → Contains (pairs_in (nodes_of state)) p → OwnsViewport setup s.0 p
    pub once : AllPairs (λ p q. p ≢ q) (pairs_in (nodes_of state))
    pub small : node_count (nodes_of state) ≤ TREE_NODES_MAX
    pub opacities : greatest_opacity (nodes_of state) ≤ OPACITY_MAX

  no-one : (p : ℕ) → Contains [] p → ⊥
  no-one p has = in-contains p [] has

  nothing-fits : StateFits None
  nothing-fits = record {
    views = λ p is. cc;
    viewports = λ p has. absurd (no-one p has);
    once = pairs-distinct [] tt;
    small = omega arith;
    opacities = omega arith;
  }

  view-is : (view : Option PairNo) (p : ℕ) → option_map (λ (pair : PairNo). pair.0) view ≡ Some p → view ≡ Some (record { 0 = p })
  view-is None p is = cc
  view-is (Some pair) p is = let same : pair.0 ≡ p = cc in ap (λ n. let q : PairNo = record { 0 = n } in Some q) same

  owned-view : (view : Option PairNo) (p : ℕ) → view_owned setup s view ≡ true → view ≡ Some (record { 0 = p }) → owns_view setup s (record { 0 = p }) ≡ true
  owned-view None p owned is = cc
  owned-view (Some q) p owned is = let same : q ≡ record { 0 = p } = cc in let P : PairNo → Type 0 = λ r. owns_view setup s r ≡ true in subst P same owned

  third : (a b c : Bool) (x y z : Reason) → cond a (Some x) (cond b (Some y) (cond c (Some z) None)) ≡ None → c ≡ false
  third true b c x y z none = cc
  third false true c x y z none = cc
  third false false true x y z none = cc
  third false false false x y z none = refl

  list-in : (xs : List ℕ) (p : ℕ) → In p xs → list_all (owns setup s) xs ≡ true → owns setup s p ≡ true
  list-in [] p on all = absurd on
  list-in (x ∷ xs) p (inl same) all = ap (owns setup s) same ∙ and-left (owns setup s x) (list_all (owns setup s) xs) all
  list-in (x ∷ xs) p (inr on) all = list-in xs p on (and-right (owns setup s x) (list_all (owns setup s) xs) all)

  made-is : (m : Option Made) (p : PairNo) → option_and_then pair_made m ≡ Some p → ((x : Made) → m ≡ Some x → made_owned setup s x ≡ true)
      → owns_viewport setup s p ≡ true
  made-is None p is owned = cc
  made-is (Some (an_image i)) p is owned = cc
  made-is (Some (a_fill x)) p is owned = cc
  made-is (Some (a_viewport q props)) p is owned =
      let both : Some q ≡ Some p = is in
      let same : q ≡ p = cc in
      let P : PairNo → Type 0 = λ r. owns_viewport setup s r ≡ true in subst P same (owned (a_viewport q props) refl)

  state-fits : (state : Option Tree) → ShownWell state → StateFits state
  state-fits None well = nothing-fits
  state-fits (Some t) well =
      let d = well.draft in
      let good = well.good in
      let nodes : Children = nodes_of (Some t) in
      let all : all_nodes d ≡ Some nodes = well.low.all in
      let owned : list_all (owns setup s) (pairs_in nodes) ≡ true = all-owned setup s d good.owned nodes all in
      let tidy = (lived-all setup well.calls d good.made).tidy in
      let twice : shows_twice (all_nodes d) ≡ false = third (is_cyclic d) (is_too_large (all_nodes d)) (shows_twice (all_nodes d)) Cycle TreeTooLarge
      ViewportTwice good.tests in
      let once : has_twice (viewports_in nodes) ≡ false = ap shows_twice (sym all) ∙ twice in
      let single : (k : ℕ) (p : PairNo) → pair_at d.contents k ≡ Some p → held_of p (lives_of d) ≤ 1 =
      λ k p is. good.single p (made-is (of_serial d.contents k) p is (λ x at. at-serial (made_owned setup s) d.contents k x good.owned.contents at)) in
      record {
        views = λ p is. owner-is (record { 0 = p }) (owned-view d.view p good.owned.view (sym well.low.view ∙ view-is t.view p is));
        viewports = λ p has. viewport-is p (list-in (pairs_in nodes) p (in-contains p (pairs_in nodes) has) owned);
        once = pairs-distinct (pairs_in nodes) (pairs-once d tidy (reached setup well.calls d good.made) single nodes all once);
        small = tree_small d t well.low good.tests;
        opacities = well.low.low.opacity;
      }

-- ---- the states of all sessions

module _ (setup : Setup) (history : List Entry) (legal : Legal setup history) where
  each-fits : (s : ℕ) → StateFits setup (record { 0 = s }) (state_of (shown_states setup history) s)
  each-fits zero = nothing-fits setup (record { 0 = zero })
  each-fits (suc k) =
      let s : SessionNo = record { 0 = suc k } in
      within-or-past (StateFits setup s) (shown setup history) None setup.sessions k (nothing-fits setup s)
      (state-fits setup s (shown setup history s) (shown-well setup s history legal))

  -- what is shown of a legal history fits
  pub states-fit : FitsSetup setup (shown_states setup history)
  states-fit = record {
    views = λ s p is. (each-fits s).views p is;
    viewports = λ s p has. (each-fits s).viewports p has;
    once = λ s. (each-fits s).once;
    small = λ s. (each-fits s).small;
    opacities = λ s. (each-fits s).opacities;
  }

-- so does what the last frame shows
pub begun-fits : (setup : Setup) (history : List Entry) → Legal setup history → FitsSetup setup (shown_states setup (to_begin history))
begun-fits setup history legal = states-fit setup (to_begin history) (legal-earlier setup (to_begin history) history (begin-earlier history) legal)
