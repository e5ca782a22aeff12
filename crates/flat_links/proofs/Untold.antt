-- Where the sights that the last two frames had of all sessions are alike, the end of a frame tells something anew of pairs alone whose properties changed.
use Rattle.std.proofs.Common.{◌≡◌, ◌≢◌, ◌∙◌, sym, subst, ℕ, suc, ◌+◌, ◌-◌, ◌<◌, ◌≤◌, Bool, true, false, List, [], length, map, refl, arith, ap, All, Some, None}
use Rattle.std.proofs.Common.{inl, inr, ◌⊎◌, slice_get, slice_index_or}
use Rattle.std.specs.Prelude.{Option, cond, ◌&&◌, ◌||◌, ◌==◌, nat_lt, nat_le, option_map}
use Rattle.std.proofs.lemmas.Bool.Decides.{nat_tests}
use Rattle.std.proofs.lemmas.List.{get_or-map, get_or_default}
use Rattle.std.proofs.lemmas.Option.{slice_get-get_or, slice_get_within}
use Rattle.flat_base.specs.declared.ids.Actor.{Actor}
use Rattle.flat_base.specs.declared.ids.Actor.TheVariants.{Display, Probe, Session}
use Rattle.flat_base.specs.declared.ids.PairNo.{PairNo}
use Rattle.flat_base.specs.declared.ids.SessionNo.{SessionNo}
use Rattle.flat_scene.specs.declared.calls.ViewportProps.{ViewportProps}
use Rattle.flat_scene.specs.declared.journal.Entry.{Entry}
use Rattle.flat_scene.specs.declared.journal.WatcherValue.{WatcherValue}
use Rattle.flat_scene.specs.declared.setup.PairDecl.{PairDecl}
use Rattle.flat_scene.specs.declared.setup.Setup.{Setup}
use Rattle.flat_facts.specs.Begins.{finish_entry, finished}
use Rattle.flat_rules.specs.Ends.{is_viewport_lost, to_finished, view_owner, viewport_owner, viewport_uses}
use Rattle.flat_rules.specs.Legal.{Legal}
use Rattle.flat_rules.specs.Shown.{is_connected, is_pair, shown_view}
use Rattle.flat_rules.specs.Stamps.{is_seen}
use Rattle.flat_rules.specs.Watch.{Watcher, are_joined, child_of, layout_of, listener, props_given, props_seen, props_told, ratio_told, status_of, told}
use Rattle.std.specs.Option.{option_or}
use Rattle.flat_states.proofs.lemmas.Counts.{at-session}
use Rattle.flat_links.specs.declared.session_links.SessionLinks.{SessionLinks}
use Rattle.flat_links.specs.declared.session_links.SeenAtBegin.{SeenAtBegin}
use Rattle.flat_links.specs.declared.pairs.PairState.{PairState}
use Rattle.flat_links.specs.SessionLinks.{AreLinked, AreSessionLinks, IsLastSeenAtBegin, IsPairKept, new_session_links, nothing}
use Rattle.flat_facts.specs.Pairs.{pair}
use Rattle.flat_links.specs.Hearing.{IsAlike, IsCalm, is_within, losing_of, losings}
use Rattle.flat_facts.specs.Told.{TellsTheSame}
use Rattle.flat_links.specs.Usage.{settled}
use Rattle.flat_links.specs.Views.{child_by, layout_by, status_by}
use Rattle.flat_links.proofs.PairTold.{child-told, display-keeps, status-told, viewport-lost, view-lost}
use Rattle.flat_links.proofs.LinksFinish.{pair-settled}
use Rattle.flat_links.proofs.ToldLinks.{beyond-seen_at_begin, child-kept, lost-told, props-kept, within-seen_at_begin, zero-seen_at_begin}

-- What the last two frames saw of a session is alike.
record BeginSights (setup : Setup) (h k : List Entry) (losing : Option ℕ) (s : SessionNo) : Type 0 where
  old : SeenAtBegin
  new : SeenAtBegin
  before : IsLastSeenAtBegin setup h s old
  after : IsLastSeenAtBegin setup k s new
  alike : IsAlike losing old new

alike-nothing : (losing : Option ℕ) → IsAlike losing nothing nothing
alike-nothing losing = record { closed = refl; view = refl; connected = refl; taken = λ stamp within. refl }

module _ (setup : Setup) (h : List Entry) (line : ℕ) (legal : Legal setup (finished h line)) (linked_sessions : List SessionLinks) (pairs : List PairState)
    (tied : AreLinked setup h linked_sessions pairs) (calm : All IsCalm linked_sessions)
    (ratio_is : ratio_told setup (finished h line) ≡ ratio_told setup h) where
  abbrev k : List Entry
  k = finished h line

  -- of each session, declared or not
  seen_at_begins : (s : SessionNo) → BeginSights setup h k (losing_of (losings linked_sessions) s) s
  seen_at_begins s = by_zero (s.0 == 0) refl
    where
      within : 0 < s.0 → s.0 ≤ length linked_sessions → BeginSights setup h k (losing_of (losings linked_sessions) s) s
      within some few =
          let below : s.0 - 1 < length linked_sessions = omega (arith, some, few) in
          let one : SessionLinks = slice_index_or linked_sessions (s.0 - 1) new_session_links in
          let itself : one ≡ slice_index_or linked_sessions (s.0 - 1) one = get_or_default linked_sessions (s.0 - 1) new_session_links one below in
          let kept : AreSessionLinks setup h s one = at-session (AreSessionLinks setup h) linked_sessions s one tied.each_session some few itself in
          record {
            old = one.finished;
            new = one.begun;
            before = within-seen_at_begin setup s h linked_sessions tied.each_session some few one itself;
            after = record {
              closed = ap (λ (g : SeenAtBegin). g.closed) kept.begun;
              took = ap (λ (g : SeenAtBegin). g.taken) kept.begun;
              view = ap (λ (g : SeenAtBegin). g.view) kept.begun;
              connected = λ p. ap (λ (g : SeenAtBegin). is_pair g.view p && g.connected) kept.begun;
            };
            alike = rw (get_or-map (λ (f : SessionLinks). f.losing) linked_sessions (s.0 - 1) new_session_links None below)
                (calm (s.0 - 1) new_session_links below);
          }

      none : IsLastSeenAtBegin setup h s nothing → IsLastSeenAtBegin setup k s nothing → BeginSights setup h k (losing_of (losings linked_sessions) s) s
      none was is = record { old = nothing; new = nothing; before = was; after = is; alike = alike-nothing (losing_of (losings linked_sessions) s) }

      by_place : (b : Bool) → nat_le s.0 (length linked_sessions) ≡ b → s.0 ≢ 0 → BeginSights setup h k (losing_of (losings linked_sessions) s) s
      by_place true few some = within (omega (arith, some)) (grind (arith, nat_tests))
      by_place false past some =
          let beyond : length linked_sessions ≤ s.0 - 1 = (let more : length linked_sessions < s.0 = grind (arith, nat_tests) in omega (arith, more)) in
          none (beyond-seen_at_begin setup s h legal.0 linked_sessions tied.sessions beyond some)
          (beyond-seen_at_begin setup s k legal linked_sessions tied.sessions beyond some)

      by_zero : (b : Bool) → (s.0 == 0) ≡ b → BeginSights setup h k (losing_of (losings linked_sessions) s) s
      by_zero true is = let zero_number : s.0 ≡ 0 = grind (arith, nat_tests) in
          none (zero-seen_at_begin setup s h legal.0 zero_number) (zero-seen_at_begin setup s k legal zero_number)
      by_zero false is = by_place (nat_le s.0 (length linked_sessions)) refl
          (let some : s.0 ≢ 0 = λ same. let wrong : (s.0 == 0) ≡ true = grind (arith, nat_tests) in let never : true ≡ false = sym wrong ∙ is in cc in some)

  -- ---- one pair

  module _ (p : PairNo) (decl : PairDecl) (at : slice_get setup.pairs p.0 ≡ Some decl) where
    below : p.0 < length pairs
    below = (let declared : p.0 < length setup.pairs = slice_get_within setup.pairs p.0 decl at in omega (arith, declared, tied.count))

    abbrev any : PairState
    any = record { ended = None; cleared = None; serial = 0; given = None; seen = None; pending = None }

    abbrev was : PairState
    was = slice_index_or pairs p.0 any

    kept : IsPairKept setup h p was
    kept = tied.each_pair p.0 any below

    kept_then : IsPairKept setup k p (settled was)
    kept_then = pair-settled setup h line legal p was (settled was) refl kept

    owner-is : viewport_owner setup p ≡ Some decl.viewport
    owner-is = rw at refl

    view-owner-is : view_owner setup p ≡ Some decl.view
    view-owner-is = rw at refl

    bound : (v : SessionNo) → decl.viewport ≡ Session v → (n m : ℕ)
        → ((stamp : Option ℕ) → is_within stamp (losing_of (losings linked_sessions) v) ≡ true → is_seen stamp n ≡ is_seen stamp m)
        → is_seen was.cleared n ≡ is_seen was.cleared m
    bound v viewport n m same = same was.cleared ((tied.bound p.0 any below).cleared v (owner-is ∙ ap (λ (a : Actor). Some a) viewport))

    -- whether the viewport end is lost
    lost-same : is_viewport_lost setup (to_finished k) p ≡ is_viewport_lost setup (to_finished h) p
    lost-same = by_owner decl.viewport refl
      where
        by_owner : (a : Actor) → decl.viewport ≡ a → is_viewport_lost setup (to_finished k) p ≡ is_viewport_lost setup (to_finished h) p
        by_owner Display display = display-keeps setup k p (owner-is ∙ ap (λ (a : Actor). Some a) display)
            ∙ sym (display-keeps setup h p (owner-is ∙ ap (λ (a : Actor). Some a) display))
        by_owner (Probe n) probe = rw (owner-is, probe) refl
        by_owner (Session v) viewport =
            let it = seen_at_begins v in
            sym (lost-told setup k p v decl at viewport (settled was) kept_then it.new it.after)
            ∙ ap (λ (b : Bool). b || is_seen was.cleared it.new.taken) it.alike.closed
            ∙ ap (λ (b : Bool). it.old.closed || b) (bound v viewport it.new.taken it.old.taken it.alike.taken)
            ∙ lost-told setup h p v decl at viewport was kept it.old it.before

    -- what its view is told
    connected-same : (is_pair (shown_view setup (to_finished k) decl.view) p && is_connected setup (to_finished k) decl.view)
        ≡ (is_pair (shown_view setup (to_finished h) decl.view) p && is_connected setup (to_finished h) decl.view)
    connected-same =
        let it = seen_at_begins decl.view in
        sym (it.after.connected p) ∙ ap (λ (v : Option PairNo). is_pair v p && it.new.connected) it.alike.view
        ∙ ap (λ (b : Bool). is_pair it.old.view p && b) it.alike.connected ∙ it.before.connected p

    joined-same : are_joined setup k p ≡ are_joined setup h p
    joined-same = by_owner decl.viewport refl
      where
        by_owner : (a : Actor) → decl.viewport ≡ a → are_joined setup k p ≡ are_joined setup h p
        by_owner Display viewport = rw (owner-is, viewport) refl
        by_owner (Probe n) viewport = rw (owner-is, viewport) refl
        by_owner (Session v) viewport = rw (owner-is, viewport) refl

    status-same : told setup k (status_of p) ≡ told setup h (status_of p)
    status-same =
        status-told setup k p decl.view view-owner-is ∙ ap
        (λ (b : Bool). status_by b (are_joined setup k p)
        (is_pair (shown_view setup (to_finished k) decl.view) p && is_connected setup (to_finished k) decl.view)) lost-same
        ∙ ap (status_by (is_viewport_lost setup (to_finished h) p) (are_joined setup k p)) connected-same ∙ joined
        ∙ sym (status-told setup h p decl.view view-owner-is)
      where
        joined : status_by (is_viewport_lost setup (to_finished h) p) (are_joined setup k p)
            (is_pair (shown_view setup (to_finished h) decl.view) p && is_connected setup (to_finished h) decl.view)
            ≡ status_by (is_viewport_lost setup (to_finished h) p) (are_joined setup h p)
            (is_pair (shown_view setup (to_finished h) decl.view) p && is_connected setup (to_finished h) decl.view)
        joined = ap (λ (b : Bool). status_by (is_viewport_lost setup (to_finished h) p) b
            (is_pair (shown_view setup (to_finished h) decl.view) p && is_connected setup (to_finished h) decl.view)) joined-same

    props-same : was.pending ≡ was.seen → props_told setup (viewport_owner setup p) k p ≡ props_told setup (viewport_owner setup p) h p
    props-same same = by_owner decl.viewport refl
      where
        by_owner : (a : Actor) → decl.viewport ≡ a → props_told setup (viewport_owner setup p) k p ≡ props_told setup (viewport_owner setup p) h p
        by_owner Display viewport = rw (owner-is, viewport, ratio_is) refl
        by_owner (Probe n) viewport = rw (owner-is, viewport) refl
        by_owner (Session v) viewport =
            let owned : viewport_owner setup p ≡ Some (Session v) = owner-is ∙ ap (λ (a : Actor). Some a) viewport in
            sym (props-kept setup k p v decl at viewport (settled was) kept_then) ∙ ap (λ (o : Option ViewportProps). option_or o was.given) same
            ∙ props-kept setup h p v decl at viewport was kept

    layout-same : was.pending ≡ was.seen → told setup k (layout_of p) ≡ told setup h (layout_of p)
    layout-same same =
        ap (λ (n : ℕ). layout_by n (is_viewport_lost setup (to_finished k) p) (are_joined setup k p) (props_told setup (viewport_owner setup p) k p)) ratio_is
        ∙ ap (λ (b : Bool). layout_by (ratio_told setup h) b (are_joined setup k p) (props_told setup (viewport_owner setup p) k p)) lost-same
        ∙ ap (λ (b : Bool). layout_by (ratio_told setup h) (is_viewport_lost setup (to_finished h) p) b (props_told setup (viewport_owner setup p) k p))
        joined-same
        ∙ ap (layout_by (ratio_told setup h) (is_viewport_lost setup (to_finished h) p) (are_joined setup h p)) (props-same same)

    -- and its viewport's owner
    child-same : (n : ℕ) → told setup k (child_of p n) ≡ told setup h (child_of p n)
    child-same n =
        let it = seen_at_begins decl.view in
        sym (child-kept setup k p n decl at (settled was) kept_then it.new it.after)
        ∙ ap (λ (b : Bool). child_by (b || is_seen was.ended it.new.taken) (is_pair it.new.view p)) it.alike.closed
        ∙ ap (λ (b : Bool). child_by (it.old.closed || b) (is_pair it.new.view p))
        (it.alike.taken was.ended ((tied.bound p.0 any below).ended decl.view view-owner-is))
        ∙ ap (λ (v : Option PairNo). child_by (it.old.closed || is_seen was.ended it.old.taken) (is_pair v p)) it.alike.view
        ∙ child-kept setup h p n decl at was kept it.old it.before

  -- ---- all watchers of a session

  declared : (f : PairDecl → Actor) (a : Actor) (o : Option PairDecl) → option_map f o ≡ Some a → (decl : PairDecl) × (o ≡ Some decl)
  declared f a None is = let wrong : None ≡ Some a = is in cc
  declared f a (Some decl) is = (decl, refl)

  pub tells-the-same : (s : SessionNo) → ((i : ℕ) (d : PairState) → i < length pairs → view_owner setup (pair i) ≡ Some s
      → (slice_index_or pairs i d).pending ≡ (slice_index_or pairs i d).seen) → TellsTheSame setup h k s
  tells-the-same s settled_for (layout_of p) heard =
      let one = declared (λ pair. Session pair.view) (Session s) (slice_get setup.pairs p.0) (nested (slice_get setup.pairs p.0) ∙ heard) in
      let owner : view_owner setup p ≡ Some s = named (view_owner setup p) heard in
      layout-same p one.0 one.1 (settled_for p.0 (any p one.0 one.1) (below p one.0 one.1) owner)
    where
      nested : (o : Option PairDecl) → option_map (λ pair. Session pair.view) o ≡ option_map Session (option_map (λ pair. pair.view) o)
      nested None = refl
      nested (Some decl) = refl

      named : (o : Option SessionNo) → option_map Session o ≡ Some (Session s) → o ≡ Some s
      named None is = let wrong : None ≡ Some (Session s) = is in cc
      named (Some t) is = cc
  tells-the-same s settled_for (status_of p) heard =
      let one = declared (λ pair. Session pair.view) (Session s) (slice_get setup.pairs p.0) (nested (slice_get setup.pairs p.0) ∙ heard) in
      status-same p one.0 one.1
    where
      nested : (o : Option PairDecl) → option_map (λ pair. Session pair.view) o ≡ option_map Session (option_map (λ pair. pair.view) o)
      nested None = refl
      nested (Some decl) = refl
  tells-the-same s settled_for (child_of p n) heard =
      let one = declared (λ pair. pair.viewport) (Session s) (slice_get setup.pairs p.0) heard in
      child-same p one.0 one.1 n
