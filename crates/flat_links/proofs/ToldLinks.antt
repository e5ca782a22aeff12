-- What is told, by what is kept of sessions and pairs.
use Rattle.std.proofs.Common.{◌≡◌, ◌≢◌, ◌∙◌, sym, subst, ℕ, suc, ◌-◌, ◌<◌, ◌≤◌, Bool, true, false, List, [], length, refl, arith, ap, Some, None, slice_get}
use Rattle.std.proofs.Common.{slice_index_or}
use Rattle.std.specs.Prelude.{Option, cond, ◌&&◌, ◌||◌, is_some, nat_lt, option_and_then}
use Rattle.std.specs.List.{list_any}
use Rattle.std.proofs.lemmas.Bool.Decides.{nat_tests}
use Rattle.flat_base.specs.declared.ids.Actor.{Actor}
use Rattle.flat_base.specs.declared.ids.Actor.TheVariants.{Display, Probe, Session}
use Rattle.flat_base.specs.declared.ids.PairNo.{PairNo}
use Rattle.flat_base.specs.declared.ids.SessionNo.{SessionNo}
use Rattle.flat_scene.specs.declared.calls.ViewportProps.{ViewportProps}
use Rattle.flat_scene.specs.declared.journal.Entry.{Entry}
use Rattle.flat_scene.specs.declared.setup.PairDecl.{PairDecl}
use Rattle.flat_scene.specs.declared.setup.Setup.{Setup}
use Rattle.flat_scene.specs.declared.trees.Tree.{Tree}
use Rattle.flat_scene.specs.Frames.{taken}
use Rattle.flat_scene.specs.History.{◌▹◌, closes, is_closed, own, presents, published_all, Published}
use Rattle.flat_scene.specs.Setups.{is_declared}
use Rattle.flat_scene.proofs.lemmas.TakingLemmas.{taken-made}
use Rattle.flat_links.specs.declared.session_links.SessionLinks.{SessionLinks}
use Rattle.flat_links.specs.declared.session_links.SeenAtBegin.{SeenAtBegin}
use Rattle.flat_links.specs.declared.pairs.PairState.{PairState}
use Rattle.flat_rules.specs.Ends.{is_done, is_viewport_lost, to_finished, uses_viewport, view_owner, view_uses, viewport_owner, viewport_uses}
use Rattle.flat_links.specs.SessionLinks.{AreLinked, AreSessionLinks, IsLastSeenAtBegin, IsPairKept, nothing}
use Rattle.flat_rules.specs.Numbers.{AllNumbered, number}
use Rattle.flat_states.proofs.lemmas.Counts.{at-session}
use Rattle.flat_rules.specs.Legal.{Legal}
use Rattle.flat_rules.specs.Shown.{is_pair, shown_view, tree_of}
use Rattle.flat_rules.specs.Stamps.{is_seen}
use Rattle.flat_links.specs.Views.{child_by}
use Rattle.flat_rules.specs.Watch.{are_joined, child_of, is_used, props_at, props_given, props_seen, props_told, told}
use Rattle.flat_scene.specs.declared.journal.EntryKind.{EntryKind}
use Rattle.flat_scene.specs.declared.journal.EntryKind.TheVariants.{Viewport}
use Rattle.std.specs.Option.{option_or}
use Rattle.flat_facts.proofs.lemmas.Earlier.{finished-earlier, legal-earlier}
use Rattle.flat_base.proofs.lemmas.Tests.{and-left}
use Rattle.flat_links.proofs.PairTold.{child-told, view-lost, viewport-lost}
use Rattle.flat_facts.proofs.lemmas.Undeclared.{none-taken, own-none}

-- ---- who isn't declared

module _ (setup : Setup) (s : SessionNo) (h : List Entry) (legal : Legal setup h) where
  finished_legal : Legal setup (to_finished h)
  finished_legal = legal-earlier setup (to_finished h) h (finished-earlier h) legal

  pub unknown-seen_at_begin : is_declared setup s ≡ false → IsLastSeenAtBegin setup h s nothing
  unknown-seen_at_begin unknown =
      let none : own s (to_finished h) ≡ [] = own-none setup s unknown (to_finished h) finished_legal in
      let presents_none : length (presents s (to_finished h)) ≡ 0 = ap (λ (xs : List Entry). length (published_all xs)) none in
      let opened : is_closed s (to_finished h) ≡ false = ap (list_any (λ (e : Entry). closes e.reply)) none in
      let view : shown_view setup (to_finished h) s ≡ None =
      ap (λ (o : Option Published). option_and_then (λ (t : Tree). t.view) (cond (is_closed s (to_finished h)) None (option_and_then (tree_of setup) o)))
      (none-taken setup s unknown (to_finished h) finished_legal)
      ∙ both (is_closed s (to_finished h)) in
      record {
        closed = sym opened;
        took = omega (arith, taken-made setup s (to_finished h), presents_none);
        view = sym view;
        connected = λ p. rw view refl;
      }
    where
      both : (b : Bool) → option_and_then (λ (t : Tree). t.view) (cond b None None) ≡ None
      both true = refl
      both false = refl

  -- number 0 isn't, nor is one beyond the last
  pub zero-seen_at_begin : s.0 ≡ 0 → IsLastSeenAtBegin setup h s nothing
  zero-seen_at_begin none = unknown-seen_at_begin (grind (arith, nat_tests))

  pub beyond-seen_at_begin : (linked_sessions : List SessionLinks) → length linked_sessions ≡ setup.sessions → length linked_sessions ≤ s.0 - 1 → s.0 ≢ 0
      → IsLastSeenAtBegin setup h s nothing
  beyond-seen_at_begin linked_sessions count past some = unknown-seen_at_begin (by_tests (is_declared setup s) refl)
    where
      by_tests : (b : Bool) → is_declared setup s ≡ b → b ≡ false
      by_tests false is = refl
      by_tests true is = absurd (grind (arith, nat_tests))

-- one of them is
pub within-seen_at_begin : (setup : Setup) (s : SessionNo) (h : List Entry) (linked_sessions : List SessionLinks)
    → AllNumbered (λ i. AreSessionLinks setup h (number i)) linked_sessions
    → 0 < s.0 → s.0 ≤ length linked_sessions
    → (one : SessionLinks) → one ≡ slice_index_or linked_sessions (s.0 - 1) one → IsLastSeenAtBegin setup h s one.finished
within-seen_at_begin setup s h linked_sessions each some few one at =
    let kept : AreSessionLinks setup h s one = at-session (AreSessionLinks setup h) linked_sessions s one each some few at in
    record {
      closed = ap (λ (g : SeenAtBegin). g.closed) kept.finished;
      took = ap (λ (g : SeenAtBegin). g.taken) kept.finished;
      view = ap (λ (g : SeenAtBegin). g.view) kept.finished;
      connected = λ p. ap (λ (g : SeenAtBegin). is_pair g.view p && g.connected) kept.finished;
    }

-- ---- what is told of a pair

-- what is kept of one pair
pub pair-of : (setup : Setup) (h : List Entry) (linked_sessions : List SessionLinks) (pairs : List PairState) (p : PairNo) (state : PairState)
    → AreLinked setup h linked_sessions pairs → p.0 < length setup.pairs → state ≡ slice_index_or pairs p.0 state → IsPairKept setup h p state
pair-of setup h linked_sessions pairs p state tied below is = subst (IsPairKept setup h p) (sym is)
    (tied.each_pair p.0 state (omega (arith, below, tied.count)))

owner-at : (setup : Setup) (p : PairNo) (decl : PairDecl) → slice_get setup.pairs p.0 ≡ Some decl → viewport_owner setup p ≡ Some decl.viewport
owner-at setup p decl at = rw at refl

-- a use has properties, so they are there exactly where the viewport end was used
use-props : (p : PairNo) (kind : EntryKind) → uses_viewport p kind ≡ true → is_some (props_at kind) ≡ true
use-props p (Viewport q props) is = refl
use-props p kind is = cc

pub given-used : (setup : Setup) (p : PairNo) (h : List Entry) → is_some (props_given setup (viewport_uses p h)) ≡ nat_lt 0 (length (viewport_uses p h))
given-used setup p [] = refl
given-used setup p (h ▹ e) = by_entry (uses_viewport p e.kind && is_done e.reply) refl (given-used setup p h)
  where
    by_entry : (b : Bool) → (uses_viewport p e.kind && is_done e.reply) ≡ b
        → is_some (props_given setup (viewport_uses p h)) ≡ nat_lt 0 (length (viewport_uses p h))
        → is_some (props_given setup (viewport_uses p (h ▹ e))) ≡ nat_lt 0 (length (viewport_uses p (h ▹ e)))
    by_entry false is before = rw is before
    by_entry true is before =
        let some : nat_lt 0 (suc (length (viewport_uses p h))) ≡ true = grind (arith, nat_tests) in
        rw is (use-props p e.kind (and-left (uses_viewport p e.kind) (is_done e.reply) is) ∙ sym some)

-- an end that isn't the display's is used where a use is kept of it
used-by : (setup : Setup) (a : Actor) (p : PairNo) (h : List Entry) → (a ≡ Display → ⊥) → is_used setup (Some a) p h ≡ nat_lt 0 (length (viewport_uses p h))
used-by setup Display p h not = absurd (not refl)
used-by setup (Session s) p h not = refl
used-by setup (Probe n) p h not = refl

module _ (setup : Setup) (h : List Entry) (p : PairNo) where
  pub joined-told : (decl : PairDecl) → slice_get setup.pairs p.0 ≡ Some decl → (decl.viewport ≡ Display → ⊥) → nat_lt 0 (length (view_uses p h)) ≡ true
      → (state : PairState) → IsPairKept setup h p state
      → is_some state.given ≡ are_joined setup h p
  joined-told decl at not viewed state kept =
      let used : is_some state.given ≡ nat_lt 0 (length (viewport_uses p h)) = ap is_some kept.given ∙ given-used setup p h in
      used ∙ sym (used-by setup decl.viewport p h not) ∙ sym (ap (λ (o : Option Actor). is_used setup o p h) (owner-at setup p decl at))
      ∙ sym (ap (λ b. b && is_used setup (viewport_owner setup p) p h) viewed)

  pub lost-told : (v : SessionNo) (decl : PairDecl) → slice_get setup.pairs p.0 ≡ Some decl → decl.viewport ≡ Session v → (state : PairState)
      → IsPairKept setup h p state → (owner : SeenAtBegin) → IsLastSeenAtBegin setup h v owner
      → (owner.closed || is_seen state.cleared owner.taken) ≡ is_viewport_lost setup (to_finished h) p
  lost-told v decl at is state kept owner seen_at_begin =
      let owned : viewport_owner setup p ≡ Some (Session v) = owner-at setup p decl at ∙ ap (λ (a : Actor). Some a) is in
      ap (λ (b : Bool). b || is_seen state.cleared owner.taken) seen_at_begin.closed ∙ ap (λ (n : ℕ). is_closed v (to_finished h) || is_seen state.cleared n)
      seen_at_begin.took
      ∙ sym (viewport-lost setup h p v owned state.cleared (kept.cleared v owned))

  pub props-kept : (v : SessionNo) (decl : PairDecl) → slice_get setup.pairs p.0 ≡ Some decl → decl.viewport ≡ Session v → (state : PairState)
      → IsPairKept setup h p state
      → option_or state.seen state.given ≡ props_told setup (viewport_owner setup p) h p
  props-kept v decl at is state kept =
      let owned : viewport_owner setup p ≡ Some (Session v) = owner-at setup p decl at ∙ ap (λ (a : Actor). Some a) is in
      ap (λ (o : Option ViewportProps). option_or o state.given) (kept.seen v owned)
      ∙ ap (option_or (props_seen setup p (length (viewport_uses p h)) v h)) kept.given
      ∙ sym (ap (λ (o : Option Actor). props_told setup o h p) owned)

  pub child-kept : (n : ℕ) (decl : PairDecl) → slice_get setup.pairs p.0 ≡ Some decl → (state : PairState) → IsPairKept setup h p state → (owner : SeenAtBegin)
      → IsLastSeenAtBegin setup h decl.view owner
      → child_by (owner.closed || is_seen state.ended owner.taken) (is_pair owner.view p) ≡ told setup h (child_of p n)
  child-kept n decl at state kept owner seen_at_begin =
      let owned : view_owner setup p ≡ Some decl.view = rw at refl in
      ap (λ (b : Bool). child_by (b || is_seen state.ended owner.taken) (is_pair owner.view p)) seen_at_begin.closed
      ∙ ap (λ (k : ℕ). child_by (is_closed decl.view (to_finished h) || is_seen state.ended k) (is_pair owner.view p)) seen_at_begin.took
      ∙ ap (λ (view : Option PairNo). child_by (is_closed decl.view (to_finished h) || is_seen state.ended (taken setup (to_finished h) decl.view))
      (is_pair view p)) seen_at_begin.view
      ∙ ap (λ (b : Bool). child_by b (is_pair (shown_view setup (to_finished h) decl.view) p))
      (sym (view-lost setup h p decl.view owned state.ended (kept.ended decl.view owned)))
      ∙ sym (child-told setup h p decl.view n owned)
