-- A begin, for what is kept of sessions and pairs.
use Rattle.std.proofs.Common.{◌≡◌, ◌∙◌, sym, subst, ℕ, suc, ◌+◌, ◌<◌, true, false, List, length, refl, arith, ap, None, slice_set, slice_index_or, add-one}
use Rattle.std.specs.Prelude.{cond, nat_lt, option_and_then}
use Rattle.flat_scene.specs.declared.journal.Entry.{Entry}
use Rattle.flat_scene.specs.declared.setup.Setup.{Setup}
use Rattle.flat_scene.specs.declared.trees.Tree.{Tree}
use Rattle.flat_links.specs.declared.session_links.SessionLinks.{SessionLinks}
use Rattle.flat_states.specs.declared.state.SessionState.{SessionState}
use Rattle.flat_facts.specs.Begins.{begun, begin_entry}
use Rattle.flat_rules.specs.Numbers.{number, AllNumbered}
use Rattle.flat_links.specs.SessionLinks.{IsBegun, AreSessionLinks, seen_by_begin, seen_in_state}
use Rattle.flat_states.specs.Kept.{IsKept, taken_in}
use Rattle.flat_states.specs.Seen.{seen_of}
use Rattle.flat_rules.specs.Shown.{shown, shown_states}
use Rattle.flat_states.proofs.lemmas.BeginLoop.{all-below, none-below, not-below, same-side, this-side}
use Rattle.flat_states.proofs.lemmas.Changes.{changed-one}
use Rattle.flat_states.proofs.lemmas.Counts.{seen-count, taken-kept}
use Rattle.flat_links.proofs.Followed.{followed-still}
use Rattle.flat_rules.proofs.lemmas.ShownList.{listed-at}
use Rattle.flat_topology.specs.Join.{is_joined}
use Rattle.flat_topology.specs.Shown.{Shown, state_of}

-- what is shown of the session at a place
pub state-at : (setup : Setup) (k : List Entry) (shows : Shown) (i : ℕ) → shows ≡ shown_states setup k → i < setup.sessions
    → state_of shows (number i).0 ≡ shown setup k (number i)
state-at setup k shows i same below =
    let next : i + 1 ≡ suc i = add-one i in
    ap (state_of shows) next ∙ ap (λ (states : Shown). slice_index_or states i None) same ∙ listed-at (shown setup k) setup.sessions i None below

-- the sessions below a place are after the begin, the others before it
abbrev pub FollowedUpTo : Setup → List Entry → List Entry → ℕ → ℕ → SessionLinks → Type 0
FollowedUpTo setup h after i j = AreSessionLinks setup (cond (nat_lt j i) after h) (number j)

pub followed-start : (setup : Setup) (h after : List Entry) (linked_sessions : List SessionLinks)
    → AllNumbered (λ i. AreSessionLinks setup h (number i)) linked_sessions
    → AllNumbered (FollowedUpTo setup h after 0) linked_sessions
followed-start setup h after linked_sessions each j d below = rw (none-below j) (each j d below)

pub followed-end : (setup : Setup) (h after : List Entry) (n : ℕ) (linked_sessions : List SessionLinks) → length linked_sessions ≡ n
    → AllNumbered (FollowedUpTo setup h after n) linked_sessions → AllNumbered (λ i. AreSessionLinks setup after (number i)) linked_sessions
followed-end setup h after n linked_sessions count each j d below = rw (all-below j (length linked_sessions) n below count) at (each j d below)

pub followed-on : (setup : Setup) (h after : List Entry) (i : ℕ) (linked_sessions : List SessionLinks) (new : SessionLinks)
    → AllNumbered (FollowedUpTo setup h after i) linked_sessions → AreSessionLinks setup after (number i) new
    → AllNumbered (FollowedUpTo setup h after (i + 1)) (slice_set linked_sessions i new)
followed-on setup h after i linked_sessions new each here =
    changed-one (FollowedUpTo setup h after i) (FollowedUpTo setup h after (i + 1)) linked_sessions i new (λ j x other kept. rw (← same-side i j other) kept)
    (rw (this-side i) here) each

pub followed-here : (setup : Setup) (h after : List Entry) (i : ℕ) (linked_sessions : List SessionLinks) (state : SessionLinks)
    → AllNumbered (FollowedUpTo setup h after i) linked_sessions → i < length linked_sessions → state ≡ slice_index_or linked_sessions i state
    → AreSessionLinks setup h (number i) state
followed-here setup h after i linked_sessions state each below is =
    let here : AreSessionLinks setup h (number i) (slice_index_or linked_sessions i state) = rw (not-below i) at (each i state below) in
    subst (AreSessionLinks setup h (number i)) (sym is) here

module _ (setup : Setup) (h : List Entry) (line time : ℕ) (states : List SessionState) (shows : Shown) (begins : IsBegun setup h line time states shows) where
  seen_at_begin-is : (i : ℕ) (state : SessionState) → i < setup.sessions → IsKept setup (seen_of setup (begun h line time) (number i)) state
      → seen_in_state setup shows state (number i) ≡ seen_by_begin setup (begun h line time) (number i)
  seen_at_begin-is i state below kept =
      let k : List Entry = begun h line time in
      let closed : state.closed ≡ (seen_by_begin setup (begun h line time) (number i)).closed = kept.closed in
      let took : taken_in state ≡ (seen_by_begin setup (begun h line time) (number i)).taken =
      taken-kept setup (seen_of setup (begun h line time) (number i)) state kept (seen-count setup (begun h line time) (number i)) in
      let view : option_and_then (λ (t : Tree). t.view) (state_of shows (number i).0) ≡ (seen_by_begin setup (begun h line time) (number i)).view =
      ap (option_and_then (λ (t : Tree). t.view)) (state-at setup (begun h line time) shows i begins.shown below) in
      let connected : is_joined setup shows (number i).0 ≡ (seen_by_begin setup (begun h line time) (number i)).connected =
      ap (λ (states : Shown). is_joined setup states (number i).0) begins.shown in
      rw (closed, took, view, connected) refl

  pub seen_at_begin-at : (i : ℕ) (state : SessionState) → i < setup.sessions → length states ≡ setup.sessions → state ≡ slice_index_or states i state
      → seen_in_state setup shows state (number i) ≡ seen_by_begin setup (begun h line time) (number i)
  seen_at_begin-at i state below all at =
      seen_at_begin-is i state below (subst (IsKept setup (seen_of setup (begun h line time) (number i))) (sym at)
      (begins.kept i state (omega (arith, below, all))))

  -- one session more
  pub begun-on : (i : ℕ) (linked_sessions : List SessionLinks) (was : SessionLinks) (state : SessionState) → i < setup.sessions → length states ≡ setup.sessions
      → length linked_sessions ≡ setup.sessions → state ≡ slice_index_or states i state → was ≡ slice_index_or linked_sessions i was
      → AllNumbered (FollowedUpTo setup h (begun h line time) i) linked_sessions
      → AllNumbered (FollowedUpTo setup h (begun h line time) (i + 1))
      (slice_set linked_sessions i (let new : SessionLinks = record was { begun = seen_in_state setup shows state (number i) } in new))
  begun-on i linked_sessions was state below all count at is each =
      let kept : IsKept setup (seen_of setup (begun h line time) (number i)) state =
      subst (IsKept setup (seen_of setup (begun h line time) (number i))) (sym at) (begins.kept i state (omega (arith, below, all))) in
      let old : AreSessionLinks setup h (number i) was = followed-here setup h (begun h line time) i linked_sessions was each (omega (arith, below, count))
      is in
      let new : SessionLinks = record was { begun = seen_in_state setup shows state (number i) } in
      let now : AreSessionLinks setup (begun h line time) (number i) new =
      followed-still setup (number i) h (begin_entry line time) (λ mine. let wrong : false ≡ true = mine in cc) was new refl refl
      (seen_at_begin-is i state below kept)
      old.finished old in
      followed-on setup h (begun h line time) i linked_sessions new each now
