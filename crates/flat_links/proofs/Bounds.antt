-- The ends of pairs were lost no later than their owners may have lost one.
use Rattle.std.proofs.Common.{◌≡◌, ◌≢◌, ◌∙◌, sym, subst, ℕ, ◌+◌, ◌-◌, ◌<◌, ◌≤◌, Bool, true, false, List, ◌++◌, length, map, refl, arith, ap, Some, None, inl}
use Rattle.std.proofs.Common.{inr, ◌⊎◌, slice_index_or, slice_set, length-append}
use Rattle.std.specs.Prelude.{Option, cond, ◌==◌, nat_le, nat_lt}
use Rattle.std.specs.List.{list_any}
use Rattle.std.proofs.lemmas.Bool.Decides.{eqb_tells, nat_tests}
use Rattle.std.proofs.lemmas.List.{get_or-set_other, get_or-set_same, length-map, map-set}
use Rattle.flat_base.specs.declared.ids.Actor.TheVariants.{Session}
use Rattle.flat_base.specs.declared.ids.PairNo.{PairNo}
use Rattle.flat_base.specs.declared.ids.SessionNo.{SessionNo}
use Rattle.flat_scene.specs.declared.calls.Call.{Call}
use Rattle.flat_scene.specs.declared.journal.Entry.{Entry}
use Rattle.flat_scene.specs.declared.setup.Setup.{Setup}
use Rattle.flat_scene.specs.History.{calls, is_session}
use Rattle.flat_rules.specs.Ends.{view_owner, viewport_owner}
use Rattle.flat_rules.specs.Stamps.{stamp_then}
use Rattle.flat_facts.specs.declared.live_viewport.LiveViewport.{LiveViewport}
use Rattle.flat_facts.specs.Clears.{clears_pair}
use Rattle.flat_facts.specs.Views.{ends_of, is_loss, view_after}
use Rattle.flat_facts.proofs.lemmas.Losses.{no-clears, no-ends}
use Rattle.flat_facts.proofs.lemmas.ViewHistory.{same-session}
use Rattle.flat_states.specs.declared.state.SessionCounts.{SessionCounts}
use Rattle.flat_links.specs.declared.session_links.SessionLinks.{SessionLinks}
use Rattle.flat_links.specs.declared.pairs.PairState.{PairState}
use Rattle.flat_links.specs.Clears.{cleared_if}
use Rattle.flat_links.specs.SessionLinks.{IsOwnEntry}
use Rattle.flat_facts.specs.Pairs.{pair}
use Rattle.flat_links.specs.Hearing.{IsBound, is_within, losing_of, losings}
use Rattle.flat_links.specs.Usage.{SeesUses, SettlesPairs, losing_then, settled, with_pending}
use Rattle.flat_rules.specs.Numbers.{AllNumbered}
use Rattle.flat_scene.specs.declared.trees.ViewportUse.{ViewportUse}
use Rattle.std.proofs.Math.Seq.{map-set_same}
use Rattle.flat_links.specs.Views.{ended_by}
use Rattle.flat_links.proofs.Risen.{losing-next, within-self, within-trans}
use Rattle.flat_links.proofs.lemmas.PairSteps.{clears-elsewhere, ends-elsewhere, one-session}

-- ---- one session's stamp rises

pub losing-set : (old : List SessionLinks) (i : ℕ) (one : SessionLinks) → losings (slice_set old i one) ≡ slice_set (losings old) i one.losing
losing-set old i one = map-set (λ (f : SessionLinks). f.losing) old i one

rise-by : (all : List (Option ℕ)) (i j : ℕ) (losing : Option ℕ) → i < length all → is_within (slice_index_or all i None) losing ≡ true
    → ((i == j) ≡ true) × (i ≡ j) ⊎ ((i == j) ≡ false) × (i ≢ j)
    → is_within (slice_index_or all j None) (slice_index_or (slice_set all i losing) j None) ≡ true
rise-by all i j losing below rises (inl here) =
    let now : slice_index_or (slice_set all i losing) j None ≡ losing =
    ap (λ (k : ℕ). slice_index_or (slice_set all i losing) k None) (sym here.1) ∙ get_or-set_same all i losing None below in
    rw now (ap (λ (k : ℕ). is_within (slice_index_or all k None) losing) (sym here.1) ∙ rises)
rise-by all i j losing below rises (inr other) =
    let differ : j ≢ i = λ same. other.1 (sym same) in
    rw (get_or-set_other all i j losing None differ) (within-self (slice_index_or all j None))

rise : (all : List (Option ℕ)) (s w : SessionNo) (losing : Option ℕ) → s.0 - 1 < length all → is_within (losing_of all s) losing ≡ true
    → is_within (losing_of all w) (losing_of (slice_set all (s.0 - 1) losing) w) ≡ true
rise all s w losing below rises = rise-by all (s.0 - 1) (w.0 - 1) losing below rises (eqb_tells (s.0 - 1) (w.0 - 1))

-- a stamp that an entry may set
stamp-bound : (stamp was now : Option ℕ) (b : Bool) (n : ℕ) → is_within stamp was ≡ true → is_within was now ≡ true → (b ≡ true → now ≡ Some n)
    → is_within (stamp_then stamp b n) now ≡ true
stamp-bound (Some k) was now b n before rises sets = within-trans (Some k) was now before rises
stamp-bound None was now true n before rises sets = rw (sets refl) (within-self (Some n))
stamp-bound None was now false n before rises sets = refl

if-not : (a b : Bool) → (a ≡ false → b ≡ false) → b ≡ true → a ≡ true
if-not true b implies is = refl
if-not false b implies is = let wrong : true ≡ false = sym is ∙ implies refl in cc

-- its own entry
module _ (setup : Setup) (s : SessionNo) (h : List Entry) (e : Entry) (carries : List Call) (account : SessionCounts) (live : List LiveViewport)
    (entry : IsOwnEntry setup h e s carries account live)
    (all : List (Option ℕ)) (below : s.0 - 1 < length all) (is_early : is_within (losing_of all s) (Some account.presents) ≡ true) where
  abbrev now : List (Option ℕ)
  now = slice_set all (s.0 - 1) (losing_then carries account.presents (losing_of all s))

  rises : (w : SessionNo) → is_within (losing_of all w) (losing_of now w) ≡ true
  rises w = rise all s w (losing_then carries account.presents (losing_of all s)) below (losing-next carries account.presents (losing_of all s) is_early).0

  -- where it does a thing that is a loss, and that only its own calls can do
  sets : (w : SessionNo) (b : Bool) → (is_session w e.actor ≡ false → b ≡ false) → (list_any is_loss carries ≡ false → b ≡ false) → b ≡ true
      → losing_of now w ≡ Some account.presents
  sets w b foreign harmless does =
      let theirs : is_session w e.actor ≡ true = if-not (is_session w e.actor) b foreign does in
      let lossy : list_any is_loss carries ≡ true = if-not (list_any is_loss carries) b harmless does in
      let same : w ≡ s = one-session s w e.actor entry.mine theirs in
      ap (losing_of now) same ∙ get_or-set_same all (s.0 - 1) (losing_then carries account.presents (losing_of all s)) None below
      ∙ ap (λ b. cond b (Some account.presents) (losing_of all s)) lossy

  pub bound-own : (view : Option PairNo) → view ≡ view_after None (calls s h) → (i : ℕ) (state : PairState) → IsBound setup all (pair i) state
      → IsBound setup now (pair i) (cleared_if (clears_pair (pair i) live carries) account.presents (ended_by i view carries account.presents state))
  bound-own view is i state old = record {
    ended = λ w owner.
        stamp-bound state.ended (losing_of all w) (losing_of now w) (nat_lt 0 (ends_of (pair i) view carries)) account.presents (old.ended w owner) (rises w)
        (sets w (nat_lt 0 (ends_of (pair i) view carries))
        (λ other. ap (nat_lt 0) (ends-elsewhere setup s h e carries account live entry (pair i) view is w owner other))
        (λ none. ap (nat_lt 0) (no-ends (pair i) view carries none)));
    cleared = λ v owner.
        stamp-bound state.cleared (losing_of all v) (losing_of now v) (clears_pair (pair i) live carries) account.presents (old.cleared v owner) (rises v)
        (sets v (clears_pair (pair i) live carries) (λ other. clears-elsewhere setup s h e carries account live entry (pair i) v owner other)
        (λ none. no-clears (pair i) live carries none));
  }

-- a pair with the same stamps
pub bound-same : (setup : Setup) (all then : List (Option ℕ)) (i : ℕ) (state new : PairState) → then ≡ all → new.ended ≡ state.ended
    → new.cleared ≡ state.cleared → IsBound setup all (pair i) state → IsBound setup then (pair i) new
bound-same setup all then i state new same ended cleared old = record {
  ended = λ w owner. rw (same, ended) (old.ended w owner);
  cleared = λ v owner. rw (same, cleared) (old.cleared v owner);
}

-- a frame that begins with viewports, and one that ends, leave the stamps of pairs
pub bounds-seen : (setup : Setup) (all : List (Option ℕ)) (uses : List ViewportUse) (old new : List PairState) → SeesUses uses old new
    → AllNumbered (λ i. IsBound setup all (pair i)) old → AllNumbered (λ i. IsBound setup all (pair i)) new
bounds-seen setup all uses old new sees each i d below =
    let within : i < length old = omega (arith, below, sees.count) in
    let was : PairState = slice_index_or old i d in
    let now : PairState = slice_index_or new i d in
    let same : now ≡ with_pending was now.pending = (sees.each i d within).same in
    bound-same setup all all i was now refl (ap (λ (x : PairState). x.ended) same) (ap (λ (x : PairState). x.cleared) same) (each i d within)

pub bounds-settled : (setup : Setup) (all then : List (Option ℕ)) (old new : List PairState) → then ≡ all → SettlesPairs old new
    → AllNumbered (λ i. IsBound setup all (pair i)) old → AllNumbered (λ i. IsBound setup then (pair i)) new
bounds-settled setup all then old new same settles each i d below =
    let within : i < length old = omega (arith, below, settles.count) in
    let is : slice_index_or new i d ≡ settled (slice_index_or old i d) = settles.each i d within in
    bound-same setup all then i (slice_index_or old i d) (slice_index_or new i d) same (ap (λ (x : PairState). x.ended) is)
    (ap (λ (x : PairState). x.cleared) is) (each i d within)

-- what is written back with the same stamp
pub losings-same : (all : List SessionLinks) (i : ℕ) (was new : SessionLinks) → was ≡ slice_index_or all i was → new.losing ≡ was.losing
    → losings (slice_set all i new) ≡ losings all
losings-same all i was new is same = map-set_same (λ (f : SessionLinks). f.losing) all i new was (same ∙ ap (λ (f : SessionLinks). f.losing) is)
