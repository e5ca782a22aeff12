-- The sessions that have a view, as flags.
use Rattle.std.proofs.Common.{◌≡◌, ◌≢◌, ◌∙◌, sym, ℕ, zero, suc, ◌+◌, ◌-◌, ◌<◌, ◌≤◌, Bool, true, false, List, [], ◌∷◌, length, refl, arith, ap, All}
use Rattle.std.proofs.Common.{slice_index_or, slice_set, inl, inr, ◌⊎◌, Some, None}
use Rattle.std.specs.Prelude.{◌==◌, ◌&&◌, ◌||◌, not, IsTrue, Option, option_map}
use Rattle.std.proofs.lemmas.Bool.Decides.{eqb_tells}
use Rattle.std.proofs.lemmas.List.{get_or_default, get_or-set_other, get_or-set_same}
use Rattle.flat_base.specs.declared.ids.SessionNo.{SessionNo}
use Rattle.flat_scene.specs.declared.frames.SessionSet.{SessionSet}
use Rattle.flat_scene.specs.declared.journal.Entry.{Entry}
use Rattle.flat_scene.specs.declared.setup.Setup.{Setup}
use Rattle.flat_scene.specs.Frames.{taken}
use Rattle.flat_scene.specs.History.{is_closed}
use Rattle.flat_scene.specs.Setups.{is_declared}
use Rattle.flat_topology.specs.Members.{is_member}
use Rattle.flat_states.specs.declared.frame_clock.FrameClock.{FrameClock}
use Rattle.flat_states.specs.declared.state.SessionState.{SessionState}
use Rattle.flat_states.specs.Machines.{Stands, HasRoom}
use Rattle.flat_rules.specs.Ends.{ends_view, has_view, loses}
use Rattle.flat_states.specs.Kept.{IsKept}
use Rattle.flat_states.specs.Logs.{Logged}
use Rattle.flat_states.specs.Seen.{seen_of}
use Rattle.flat_base.specs.declared.ids.Actor.TheVariants.{Session}
use Rattle.flat_base.specs.declared.ids.PairNo.{PairNo}
use Rattle.flat_facts.specs.Laws.{is_standing}
use Rattle.flat_facts.specs.Views.{last_view}
use Rattle.flat_facts.proofs.lemmas.Earlier.{itself}
use Rattle.flat_facts.proofs.lemmas.StampSteps.{stamp-ended}
use Rattle.flat_facts.proofs.lemmas.ViewHistory.{viewing-of}
use Rattle.flat_rules.specs.Legal.{Legal, owns_view}
use Rattle.flat_rules.specs.Stamps.{is_seen}
use Rattle.flat_links.specs.declared.session_links.SessionLinks.{SessionLinks}
use Rattle.flat_links.specs.declared.pairs.PairState.{PairState}
use Rattle.flat_links.specs.SessionLinks.{AreLinked}
use Rattle.flat_links.specs.Views.{end_stamp, has_view_in, is_unseen}
use Rattle.flat_links.proofs.EndedViews.{end-of}
use Rattle.flat_states.proofs.lemmas.Counts.{declared-some, kept-session, seen-count, taken-kept}
use Rattle.flat_facts.proofs.lemmas.HasView.{has-view}
use Rattle.flat_states.proofs.lemmas.Opened.{few-declared}

-- ---- one flag after the other

at-last : {A B : Type 0} (f : A → B) (xs : List A) (bs : List B) (i k : ℕ) (x d : A) (e : B) → i < length bs → i < length xs → x ≡ slice_index_or xs i x
    → k < i + 1
    → (k < i → slice_index_or bs k e ≡ f (slice_index_or xs k d)) → ((i == k) ≡ true) × (i ≡ k) ⊎ ((i == k) ≡ false) × (i ≢ k)
    → slice_index_or (slice_set bs i (f x)) k e ≡ f (slice_index_or xs k d)
at-last f xs bs i k x d e fits within is below before (inl p) =
    let here : slice_index_or (slice_set bs i (f x)) i e ≡ f (slice_index_or xs i d) =
    get_or-set_same bs i (f x) e fits ∙ ap f (is ∙ get_or_default xs i x d within) in
    rw (← p.1) here
at-last f xs bs i k x d e fits within is below before (inr p) =
    let differ : i ≢ k = p.1 in
    let less : k < i = omega (arith, below, differ) in
    let other : k ≢ i = λ same. differ (sym same) in
    get_or-set_other bs i k (f x) e other ∙ before less

pub flag-next : {A B : Type 0} (f : A → B) (xs : List A) (bs : List B) (i : ℕ) (x : A) (e : B) → i < length bs → i < length xs → x ≡ slice_index_or xs i x
    → ((k : ℕ) (d : A) → k < i → slice_index_or bs k e ≡ f (slice_index_or xs k d))
    → (k : ℕ) (d : A) → k < i + 1 → slice_index_or (slice_set bs i (f x)) k e ≡ f (slice_index_or xs k d)
flag-next f xs bs i x e fits within is each k d below = at-last f xs bs i k x d e fits within is below (each k d) (eqb_tells i k)

-- ---- the flags of all sessions

-- the presents that frames took haven't seen the end of the last view exactly where it isn't lost
unseen-is : (setup : Setup) (h : List Entry) (s : SessionNo) {linked_sessions : List SessionLinks} (pairs : List PairState)
    → AreLinked setup h linked_sessions pairs
    → is_closed s h ≡ false
    → (last : Option PairNo) → ((q : PairNo) → last ≡ Some q → owns_view setup s q ≡ true) → is_unseen pairs (taken setup h s) last ≡ is_standing setup h last
unseen-is setup h s pairs tied opened None owns = refl
unseen-is setup h s pairs tied opened (Some q) owns =
    let end = end-of setup s h pairs tied q (owns q refl) in
    ap not
    (sym
    (ap (λ (o : Option SessionNo). loses setup (ends_view q) h (option_map Session o)) end.owner
    ∙ stamp-ended setup (ends_view q) s h h (end_stamp pairs q) (itself h) end.stamp
    ∙ ap (λ b. b || is_seen (end_stamp pairs q) (taken setup h s)) opened))

view-kept : (setup : Setup) (h : List Entry) (s : SessionNo) (state : SessionState) {linked_sessions : List SessionLinks} (pairs : List PairState)
    → Legal setup h
    → AreLinked setup h linked_sessions pairs → IsKept setup (seen_of setup h s) state
    → has_view_in pairs state ≡ has_view setup h s
view-kept setup h s state pairs legal tied kept =
    rw (kept.closed, taken-kept setup (seen_of setup h s) state kept (seen-count setup h s), kept.account) (by_closed (is_closed s h) refl)
    ∙ sym (has-view setup s h legal)
  where
    by_closed : (b : Bool) → is_closed s h ≡ b → (not (is_closed s h) && is_unseen pairs (taken setup h s) (last_view s h))
        ≡ (not (is_closed s h) && is_standing setup h (last_view s h))
    by_closed true shut = rw shut refl
    by_closed false opened = rw opened (unseen-is setup h s pairs tied opened (last_view s h) (λ q is. ((viewing-of setup s h legal opened).made q is).0))

pub member-at : (set : SessionSet) (n : ℕ) → 0 < n → is_member set n ≡ slice_index_or set.has (n - 1) false
member-at set zero some = absurd (omega (arith, some))
member-at set (suc n) some = let less : suc n - 1 ≡ n = omega arith in ap (λ (k : ℕ). slice_index_or set.has k false) (sym less)

at-session : (setup : Setup) (h : List Entry) (clock : FrameClock) (fences views : List Bool) (sessions : List SessionState) (s : SessionNo)
    (state : SessionState)
    {linked_sessions : List SessionLinks} (pairs : List PairState) → Stands setup h clock fences views sessions
    → AreLinked setup h linked_sessions pairs → IsTrue (is_declared setup s) → state ≡ slice_index_or sessions (s.0 - 1) state
    → has_view_in pairs state ≡ has_view setup h s
at-session setup h clock fences views sessions s state pairs stands tied declared is =
    view-kept setup h s state pairs stands.legal tied (kept-session setup h clock fences views sessions s state stands declared is)

some-state : {A : Type 0} (xs : List A) (i : ℕ) → i < length xs → (x : A) × (x ≡ slice_index_or xs i x)
some-state [] i below = absurd (omega (arith, below))
some-state (y ∷ xs) i below = (slice_index_or (y ∷ xs) i y, get_or_default (y ∷ xs) i y (slice_index_or (y ∷ xs) i y) below)

pub members : (setup : Setup) (h : List Entry) (clock : FrameClock) (fences views : List Bool) (sessions : List SessionState)
    {linked_sessions : List SessionLinks}
    (pairs : List PairState) (set : SessionSet) → Stands setup h clock fences views sessions → AreLinked setup h linked_sessions pairs
    → ((i : ℕ) (d : SessionState) → i < length sessions → slice_index_or set.has i false ≡ has_view_in pairs (slice_index_or sessions i d))
    → (s : SessionNo) → is_declared setup s ≡ true → is_member set s.0 ≡ has_view setup h s
members setup h clock fences views sessions pairs set stands tied each s declared =
    let here = declared-some s.0 setup.sessions declared in
    let count : length sessions ≡ setup.sessions = stands.count in
    let below : s.0 - 1 < length sessions = omega (arith, here.0, here.1, count) in
    let one = some-state sessions (s.0 - 1) below in
    member-at set s.0 here.0 ∙ each (s.0 - 1) one.0 below ∙ ap (has_view_in pairs) (sym one.1)
    ∙ at-session setup h clock fences views sessions s one.0 pairs stands tied declared one.1

pub few-states : (setup : Setup) (h : List Entry) (clock : FrameClock) (fences views : List Bool) (sessions : List SessionState) (shares : List ℕ)
    (log : Logged)
    (owed : ℕ) {dues : ℕ} → Stands setup h clock fences views sessions
    → HasRoom setup shares log owed dues → length sessions ≤ 16
few-states setup h clock fences views sessions shares log owed {dues} stands room = omega (arith, stands.count, (few-declared setup room.limits).0)

pub few-going : (setup : Setup) (h : List Entry) (clock : FrameClock) (fences views : List Bool) (sessions : List SessionState)
    → Stands setup h clock fences views sessions → All (λ state. length state.going.items ≤ 5) sessions
few-going setup h clock fences views sessions stands i d below = (stands.each i d below).goes

pub none_others : (setup : Setup) (h : List Entry) (clock : FrameClock) (fences views : List Bool) (sessions : List SessionState) (set : SessionSet)
    → Stands setup h clock fences views sessions
    → ((i : ℕ) → length sessions ≤ i → slice_index_or set.has i false ≡ false) → (s : ℕ) → setup.sessions < s → is_member set s ≡ false
none_others setup h clock fences views sessions set stands none zero above = absurd (omega arith)
none_others setup h clock fences views sessions set stands none (suc s) above = let count : length sessions ≡ setup.sessions =
    stands.count in none s (omega arith)
