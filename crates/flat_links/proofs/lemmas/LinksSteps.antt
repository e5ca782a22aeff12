-- What an entry does to what is kept of all sessions and pairs.
use Rattle.std.proofs.Common.{◌≡◌, ◌≢◌, ◌∙◌, sym, subst, ℕ, ◌-◌, ◌<◌, ◌≤◌, Bool, true, false, List, ◌++◌, length, refl, arith, ap, None, Some, slice_index_or}
use Rattle.std.proofs.Common.{slice_set}
use Rattle.std.specs.Prelude.{Option, cond, ◌==◌}
use Rattle.std.proofs.lemmas.List.{get_or-map, length-map, length-set}
use Rattle.flat_base.specs.declared.ids.PairNo.{PairNo}
use Rattle.flat_base.specs.declared.ids.SessionNo.{SessionNo}
use Rattle.flat_scene.specs.declared.calls.Call.{Call}
use Rattle.flat_scene.specs.declared.calls.ViewportProps.{ViewportProps}
use Rattle.flat_scene.specs.declared.journal.Entry.{Entry}
use Rattle.flat_scene.specs.declared.setup.Setup.{Setup}
use Rattle.flat_scene.specs.History.{◌▹◌, calls, is_session}
use Rattle.flat_links.specs.declared.session_links.SessionLinks.{SessionLinks}
use Rattle.flat_facts.specs.declared.live_viewport.LiveViewport.{LiveViewport}
use Rattle.flat_links.specs.declared.pairs.PairState.{PairState}
use Rattle.flat_states.specs.declared.state.SessionCounts.{SessionCounts}
use Rattle.flat_rules.specs.Numbers.{number, AllNumbered}
use Rattle.flat_facts.specs.Clears.{clears_pair}
use Rattle.flat_links.specs.Clears.{cleared_if}
use Rattle.flat_facts.specs.Contents.{capped}
use Rattle.flat_links.specs.SessionLinks.{AreLinked, AreSessionLinks, IsIdle, IsOwnEntry, IsPairKept, UsesNone}
use Rattle.flat_facts.specs.Pairs.{pair}
use Rattle.flat_rules.specs.Serials.{contents_made}
use Rattle.flat_links.specs.Usage.{IsUse, NotesCalls, UsesPair, followed_by, losing_then, used_by}
use Rattle.flat_links.specs.Hearing.{IsBound, is_within, losing_of, losings}
use Rattle.flat_links.specs.Views.{ended_by, is_ended}
use Rattle.flat_links.proofs.Bounds.{bound-own, bound-same, losing-set}
use Rattle.flat_links.proofs.Risen.{losing-next}
use Rattle.flat_facts.specs.Views.{if_unended, view_after}
use Rattle.flat_states.proofs.lemmas.Changes.{changed-one, not-session}
use Rattle.flat_states.proofs.lemmas.Counts.{at-session}
use Rattle.flat_links.proofs.Followed.{followed-idle, followed-own}
use Rattle.flat_links.proofs.lemmas.PairIdle.{pair-idle}
use Rattle.flat_links.proofs.lemmas.PairSteps.{no-begin, no-finish, pair-own}
use Rattle.flat_links.proofs.PairUses.{pair-used}
use Rattle.flat_facts.proofs.lemmas.Serials.{contents-append}
use Rattle.flat_facts.proofs.lemmas.ViewHistory.{same-session}
use Rattle.flat_facts.proofs.lemmas.ViewsLeft.{view-left}
use Rattle.flat_links.proofs.EndedViews.{ended-is}
use Rattle.std.proofs.Common.{length-append}

module _ (setup : Setup) (s : SessionNo) (h : List Entry) (e : Entry) (carries : List Call) (account : SessionCounts) (live : List LiveViewport)
    (entry : IsOwnEntry setup h e s carries account live) (some : 0 < s.0)
    (contents : ℕ) (old new : List SessionLinks) (few : s.0 ≤ length old) (pairs after : List PairState)
    (notes : NotesCalls s carries account live contents old new pairs after) (tied : AreLinked setup h old pairs) where
  was-followed : AreSessionLinks setup h s notes.was
  was-followed = at-session (AreSessionLinks setup h) old s notes.was tied.each_session some few notes.at

  -- the last view, where it hasn't ended, is what the calls leave
  abbrev view : Option PairNo
  view = if_unended account.view (is_ended pairs)

  view-is : view ≡ view_after None (calls s h)
  view-is = ap (λ (v : Option PairNo). if_unended v (is_ended pairs)) entry.viewed
      ∙ sym (view-left setup s h entry.legal.0 entry.opened (is_ended pairs) (λ p owned. ended-is setup s h pairs tied entry.opened p owned))

  -- it lost no end after its last present
  early : is_within notes.was.losing (Some account.presents) ≡ true
  early = ap (λ (n : ℕ). is_within notes.was.losing (Some n)) entry.counted ∙ was-followed.losing

  was-losing : losing_of (losings old) s ≡ notes.was.losing
  was-losing =
      let below : s.0 - 1 < length old = omega (arith, some, few) in
      get_or-map (λ (f : SessionLinks). f.losing) old (s.0 - 1) notes.was None below ∙ ap (λ (f : SessionLinks). f.losing) (sym notes.at)

  now-losings : losings new ≡ slice_set (losings old) (s.0 - 1) (losing_then carries account.presents (losing_of (losings old) s))
  now-losings = ap losings notes.session ∙ losing-set old (s.0 - 1) (followed_by carries account.presents contents notes.was)
      ∙ ap (λ (o : Option ℕ). slice_set (losings old) (s.0 - 1) (losing_then carries account.presents o)) (sym was-losing)

  -- each pair after its calls
  bound-noted : (i : ℕ) (state : PairState) → IsBound setup (losings old) (pair i) state
      → IsBound setup (losings new) (pair i) (cleared_if (clears_pair (pair i) live carries) account.presents (ended_by i view carries account.presents state))
  bound-noted i state was =
      let below : s.0 - 1 < length (losings old) = (let count : length (losings old) ≡ length old = length-map old (λ (f : SessionLinks). f.losing) in
      omega (arith, some, few, count)) in
      rw now-losings
      (bound-own setup s h e carries account live entry (losings old) below (rw was-losing early) view view-is i state was)

  followed : AllNumbered (λ i. AreSessionLinks setup (h ▹ e) (number i)) new
  followed =
      let now : AreSessionLinks setup (h ▹ e) s (followed_by carries account.presents contents notes.was) =
      followed-own setup s h e entry.mine (no-begin setup s h e entry.legal entry.mine) (no-finish setup s h e entry.legal entry.mine) carries entry.carried
      notes.was (followed_by carries account.presents contents notes.was) notes.contents_are
      (ap (λ (n : ℕ). is_within (losing_then carries account.presents notes.was.losing) (Some n)) (sym entry.counted)
      ∙ (losing-next carries account.presents notes.was.losing early).1) refl refl was-followed in
      let place : number (s.0 - 1) ≡ s = ap (λ (n : ℕ). let r : SessionNo = record { 0 = n } in r) (omega (arith, some)) in
      let here : AreSessionLinks setup (h ▹ e) (number (s.0 - 1)) (followed_by carries account.presents contents notes.was) =
      subst (λ (t : SessionNo). AreSessionLinks setup (h ▹ e) t (followed_by carries account.presents contents notes.was)) (sym place) now in
      subst (AllNumbered (λ i. AreSessionLinks setup (h ▹ e) (number i))) (sym notes.session)
      (changed-one (λ i. AreSessionLinks setup h (number i)) (λ i. AreSessionLinks setup (h ▹ e) (number i)) old (s.0 - 1)
      (followed_by carries account.presents contents notes.was) (λ j x other kept. elsewhere j x other kept) here tied.each_session)
    where
      elsewhere : (j : ℕ) (x : SessionLinks) → j ≢ s.0 - 1 → AreSessionLinks setup h (number j) x → AreSessionLinks setup (h ▹ e) (number j) x
      elsewhere j x other kept =
          let theirs : is_session (number j) e.actor ≡ false = ap (is_session (number j)) (same-session s e.actor entry.mine) ∙ not-session s j some other in
          followed-idle setup (number j) h e (λ mine. let wrong : true ≡ false = sym mine ∙ theirs in cc) (no-begin setup s h e entry.legal entry.mine)
          (no-finish setup s h e entry.legal entry.mine) x kept

  session-count : length new ≡ setup.sessions
  session-count = ap (length {A = SessionLinks}) notes.session ∙ length-set old (s.0 - 1) (followed_by carries account.presents contents notes.was) ∙
      tied.sessions

  -- an entry that uses no viewport end
  pub tied-noted : UsesNone e → AreLinked setup (h ▹ e) new after
  tied-noted no_use = record {
    sessions = session-count;
    count = notes.count ∙ tied.count;
    each_session = followed;
    each_pair = λ i d below.
        let within : i < length pairs = omega (arith, below, notes.count) in
        subst (IsPairKept setup (h ▹ e) (pair i)) (sym (notes.each i d within))
        (pair-own setup s h e carries account live entry view view-is i (no_use (pair i)) (slice_index_or pairs i d) (tied.each_pair i d within));
    bound = λ i d below.
        let within : i < length pairs = omega (arith, below, notes.count) in
        subst (IsBound setup (losings new) (pair i)) (sym (notes.each i d within)) (bound-noted i (slice_index_or pairs i d) (tied.bound i d within));
  }

  -- a use of a viewport end
  pub tied-used : (p : PairNo) (props : ViewportProps) → IsUse e p props → (last : List PairState) → UsesPair p contents props after last
      → AreLinked setup (h ▹ e) new last
  tied-used p props used last uses = record {
    sessions = session-count;
    count = uses.count ∙ notes.count ∙ tied.count;
    each_session = followed;
    each_pair = λ i d below.
        let inside : i < length after = omega (arith, below, uses.count) in
        let within : i < length pairs = omega (arith, inside, notes.count) in
        let state : PairState = slice_index_or pairs i d in
        let noted : PairState = cleared_if (clears_pair (pair i) live carries) account.presents (ended_by i view carries account.presents state) in
        let is : slice_index_or last i d ≡ cond (p.0 == i) (used_by contents props noted) noted =
        uses.each i d inside ∙ ap (λ (x : PairState). cond (p.0 == i) (used_by contents props x) x) (notes.each i d within) in
        subst (IsPairKept setup (h ▹ e) (pair i)) (sym is)
        (pair-used setup s h e carries account live entry p props used contents contents-now view view-is i state (tied.each_pair i d within));
    bound = λ i d below.
        let inside : i < length after = omega (arith, below, uses.count) in
        let within : i < length pairs = omega (arith, inside, notes.count) in
        let noted : IsBound setup (losings new) (pair i) (slice_index_or after i d) =
        subst (IsBound setup (losings new) (pair i)) (sym (notes.each i d within)) (bound-noted i (slice_index_or pairs i d) (tied.bound i d within)) in
        subst (IsBound setup (losings new) (pair i)) (sym (uses.each i d inside)) (used-bound (p.0 == i) (losings new) i (slice_index_or after i d) noted);
  }
    where
      used-bound : (b : Bool) (then : List (Option ℕ)) (i : ℕ) (state : PairState) → IsBound setup then (pair i) state
          → IsBound setup then (pair i) (cond b (used_by contents props state) state)
      used-bound true then i state was = bound-same setup then then i state (used_by contents props state) refl refl refl was
      used-bound false then i state was = was

      contents-now : contents ≡ capped (length (contents_made (calls s h ++ carries)))
      contents-now =
          notes.contents_are (length (contents_made (calls s h))) (was-followed.contents entry.opened)
          ∙ ap capped (sym (ap (length {A = Option PairNo}) (contents-append (calls s h) carries)
          ∙ length-append (contents_made (calls s h)) (contents_made carries)))

-- an entry that is none of a session that was open, of no frame
pub tied-idle : (setup : Setup) (h : List Entry) (e : Entry) → IsIdle setup h e → (linked_sessions : List SessionLinks) (pairs : List PairState)
    → AreLinked setup h linked_sessions pairs → AreLinked setup (h ▹ e) linked_sessions pairs
tied-idle setup h e idle linked_sessions pairs tied = record {
  sessions = tied.sessions;
  count = tied.count;
  each_session = λ i d below. followed-idle setup (number i) h e (idle.shut (number i)) idle.no_begin idle.no_finish (slice_index_or linked_sessions i d)
      (tied.each_session i d below);
  each_pair = λ i d below. pair-idle setup h e idle.legal idle.shut (pair i) (idle.no_use (pair i)) idle.no_begin idle.no_finish (slice_index_or pairs i d)
      (tied.each_pair i d below);
  bound = tied.bound;
}
