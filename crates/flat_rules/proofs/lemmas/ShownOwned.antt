-- What a session of a legal history shows names only the ends of pairs that it owns.
use Rattle.std.proofs.Common.{◌≡◌, ℕ, zero, suc, Bool, true, false, List, [], ◌∷◌, ◌++◌, refl, arith, ap, subst, cond, ◌∙◌}
use Rattle.std.specs.Prelude.{◌||◌, ◌&&◌, ◌==◌, Option, Some, None, Result, Ok, Err, option_map, option_and_then, unwrap_or, slice_get, filter_map}
use Rattle.std.specs.List.{list_all, list_any}
use Rattle.std.specs.Result.{result_ok}
use Rattle.std.proofs.lemmas.List.Folds.{list_all-append}
use Rattle.flat_base.specs.declared.ids.Actor.{Actor}
use Rattle.flat_base.specs.declared.ids.Actor.TheVariants.{Display, Session, Probe}
use Rattle.flat_base.specs.declared.errors.Reason.{Reason}
use Rattle.flat_base.specs.declared.ids.SessionNo.{SessionNo}
use Rattle.flat_scene.specs.declared.calls.Call.{Call}
use Rattle.flat_scene.specs.declared.journal.Entry.{Entry}
use Rattle.flat_scene.specs.declared.journal.EntryKind.{EntryKind}
use Rattle.flat_scene.specs.declared.journal.EntryKind.TheVariants.{Present}
use Rattle.flat_scene.specs.declared.journal.Reply.{Reply}
use Rattle.flat_scene.specs.declared.journal.Reply.TheVariants.{Presented}
use Rattle.flat_scene.specs.declared.setup.PairDecl.{PairDecl}
use Rattle.flat_scene.specs.declared.setup.Setup.{Setup}
use Rattle.flat_scene.specs.declared.trees.Children.{Children}
use Rattle.flat_scene.specs.declared.trees.Children.TheVariants.{Empty}
use Rattle.flat_scene.specs.declared.trees.Tree.{Tree}
use Rattle.flat_scene.specs.Draft.{Draft, of_serial}
use Rattle.flat_scene.specs.Effect.{draft_of}
use Rattle.flat_scene.specs.Family.{joins}
use Rattle.flat_scene.specs.Frames.{taken}
use Rattle.flat_scene.specs.History.{◌▹◌, calls, presents, published, Published, is_closed, is_session}
use Rattle.flat_scene.specs.Tree.{tree, all_nodes, head_of, use_of}
use Rattle.flat_scene.specs.Trees.{first}
use Rattle.flat_scene.proofs.lemmas.Presented.{tree-unfolded}
use Rattle.flat_scene.proofs.lemmas.Steps.{presents-own, presents-other}
use Rattle.flat_topology.specs.Shown.{pair_in, pairs_in, nodes_of, root_alone}
use Rattle.flat_rules.specs.Legal.{Legal, LegalEntry, owns_in_call, owns_all}
use Rattle.flat_rules.specs.Shown.{tree_of, shown}
use Rattle.flat_rules.proofs.lemmas.Locality.{same-session}
use Rattle.flat_rules.proofs.lemmas.Owned.{IsOwned, view_owned, draft-owned}
use Rattle.flat_rules.proofs.lemmas.OwnedTree.{at-serial, all-owned, owns}

-- a pair whose ends two sessions own joins them
abbrev pub view_at : List PairDecl → ℕ → SessionNo → Bool
view_at pairs n s = unwrap_or (option_map (λ t. t.0 == s.0) (option_map (λ pair. pair.view) (slice_get pairs n))) false

abbrev pub viewport_at : List PairDecl → ℕ → SessionNo → Bool
viewport_at pairs n s = unwrap_or (option_map (is_session s) (option_map (λ pair. pair.viewport) (slice_get pairs n))) false

pub joined-at : (pairs : List PairDecl) (n : ℕ) (s c : SessionNo) → viewport_at pairs n s ≡ true → view_at pairs n c ≡ true
    → list_any (λ pair. joins s c pair || joins c s pair) pairs ≡ true
joined-at [] n s c over under = cc
joined-at (pair ∷ pairs) zero s c over under = grind arith
joined-at (pair ∷ pairs) (suc n) s c over under = grind (arith, joined-at pairs n s c)

pub joined-back : (pairs : List PairDecl) (n : ℕ) (s c : SessionNo) → viewport_at pairs n s ≡ true → view_at pairs n c ≡ true
    → list_any (λ pair. joins c s pair || joins s c pair) pairs ≡ true
joined-back [] n s c over under = cc
joined-back (pair ∷ pairs) zero s c over under = grind arith
joined-back (pair ∷ pairs) (suc n) s c over under = grind (arith, joined-back pairs n s c)

module _ (setup : Setup) where
  calls-owned-by : (s : SessionNo) (carries : List Call) (kind : EntryKind) (actor : Actor) → is_session s actor ≡ true
      → owns_all setup actor carries kind ≡ true
      → list_all (owns_in_call setup s) carries ≡ true
  calls-owned-by s carries kind (Session t) is owned =
      subst (λ (u : SessionNo). list_all (owns_in_call setup u) carries ≡ true) (same-session s t is) (grind arith)
  calls-owned-by s carries kind Display is owned = cc
  calls-owned-by s carries kind (Probe p) is owned = cc

  -- the calls of a legal entry of a session name only what it owns
  pub carries-owned : (before : List Entry) (e : Entry) → LegalEntry setup before e → (s : SessionNo) → is_session s e.actor ≡ true
      → list_all (owns_in_call setup s) e.calls ≡ true
  carries-owned before e legal s mine = calls-owned-by s e.calls e.kind e.actor mine legal.may.owned

  pub calls-owned : (s : SessionNo) (history : List Entry) → Legal setup history → list_all (owns_in_call setup s) (calls s history) ≡ true
  calls-owned s [] legal = refl
  calls-owned s (before ▹ e) legal = one-more (calls-owned s before legal.0) (is_session s e.actor) refl
    where
      one-more : list_all (owns_in_call setup s) (calls s before) ≡ true → (b : Bool) → is_session s e.actor ≡ b
          → list_all (owns_in_call setup s) (calls s (before ▹ e)) ≡ true
      one-more earlier true mine = rw (mine, list_all-append, earlier, carries-owned before e legal.1 s mine) refl
      one-more earlier false other = rw other earlier

  pub all-calls-owned : (before : List Entry) (e : Entry) → Legal setup (before ▹ e) → (s : SessionNo) → is_session s e.actor ≡ true
      → list_all (owns_in_call setup s) (calls s before ++ e.calls) ≡ true
  all-calls-owned before e legal s mine = rw (list_all-append, calls-owned s before legal.0, carries-owned before e legal.1 s mine) refl

  -- the presents of a session carry only calls that name what it owns
  abbrev made_of_owned : SessionNo → Published → Bool
  made_of_owned s present = list_all (owns_in_call setup s) present.made

  published-made : (s : SessionNo) (kind : EntryKind) (reply : Reply) (made : List Call) → list_all (owns_in_call setup s) made ≡ true
      → list_all (made_of_owned s) (published kind reply made) ≡ true
  published-made s (Present args) (Presented number credits) made owned = rw owned refl
  published-made s _ _ made owned = refl

  made-owned : (s : SessionNo) (history : List Entry) → Legal setup history → list_all (made_of_owned s) (presents s history) ≡ true
  made-owned s [] legal = refl
  made-owned s (before ▹ e) legal = one-more (made-owned s before legal.0) (is_session s e.actor) refl
    where
      one-more : list_all (made_of_owned s) (presents s before) ≡ true → (b : Bool) → is_session s e.actor ≡ b
          → list_all (made_of_owned s) (presents s (before ▹ e)) ≡ true
      one-more earlier true mine =
          rw (
            presents-own s before e mine,
            list_all-append,
            earlier,
            published-made s e.kind e.reply (calls s before ++ e.calls) (all-calls-owned before e legal s mine),
          ) refl
      one-more earlier false other = rw (presents-other s before e other) earlier

  -- What is shown of a session names only what it owns.
  pub record IsShownOwned (s : SessionNo) (t : Tree) : Type 0 where
    pub view : view_owned setup s t.view ≡ true
    pub pairs : list_all (owns setup s) (pairs_in (nodes_of (Some t))) ≡ true

  root-owned : (s : SessionNo) (all : Children) → list_all (owns setup s) (pairs_in all) ≡ true
      → list_all (owns setup s) (pairs_in (root_alone (head_of all))) ≡ true
  root-owned s Empty owned = refl
  root-owned s (first serial scale turn place clip opacity hits content children rest) owned =
      let both : (list_all (owns setup s) (pair_in content ++ pairs_in children) && list_all (owns setup s) (pairs_in rest)) ≡ true
      = rw (list_all-append (owns setup s) (pair_in content ++ pairs_in children) (pairs_in rest)) at owned in
      list_all-append (owns setup s) (pair_in content ++ pairs_in children) [] ∙ grind arith

  abbrev shows : Draft → Children → Tree
  shows d all = record { view = d.view; root = head_of all; viewports = filter_map (use_of d) d.viewports }

  tree-owned : (s : SessionNo) (d : Draft) (t : Tree) → IsOwned setup s d → tree d ≡ Some t → IsShownOwned s t
  tree-owned s d t owned is = of_all (all_nodes d) refl (tree-unfolded d t is)
    where
      of_all : (all : Option Children) → all_nodes d ≡ all → option_map (shows d) all ≡ Some t → IsShownOwned s t
      of_all None e h = cc
      of_all (Some all) e h =
          let same : shows d all ≡ t = cc in
          subst (IsShownOwned s) same (record { view = owned.view; pairs = root-owned s all (all-owned setup s d owned all e) })

  pub ok-is : (r : Result Draft Reason) (d : Draft) → result_ok r ≡ Some d → r ≡ Ok d
  ok-is (Ok e) d is = let same : e ≡ d = cc in ap (λ (x : Draft). let r : Result Draft Reason = Ok x in r) same
  ok-is (Err r) d is = cc

  tree-of-owned : (s : SessionNo) (present : Published) (t : Tree) → made_of_owned s present ≡ true → tree_of setup present ≡ Some t → IsShownOwned s t
  tree-of-owned s present t owned is = by_draft (result_ok (draft_of setup present.made)) refl is
    where
      by_draft : (d : Option Draft) → result_ok (draft_of setup present.made) ≡ d → option_and_then tree d ≡ Some t → IsShownOwned s t
      by_draft None e h = cc
      by_draft (Some d) e h = tree-owned s d t (draft-owned setup s present.made owned d (ok-is (draft_of setup present.made) d e)) h

  pub shown-owned : (s : SessionNo) (history : List Entry) → Legal setup history → (t : Tree) → shown setup history s ≡ Some t → IsShownOwned s t
  shown-owned s history legal t is = by_open (is_closed s history) refl (of_serial (presents s history) (taken setup history s)) refl is
    where
      by_open : (b : Bool) → is_closed s history ≡ b → (p : Option Published) → of_serial (presents s history) (taken setup history s) ≡ p
          → cond b None (option_and_then (tree_of setup) p) ≡ Some t → IsShownOwned s t
      by_open true e p e2 h = cc
      by_open false e None e2 h = cc
      by_open false e (Some p) e2 h = tree-of-owned s p t
          (at-serial (made_of_owned s) (presents s history) (taken setup history s) p (made-owned s history legal) e2) h
