-- What an entry does to what is kept of a session's viewports.
use Rattle.std.proofs.Common.{◌≡◌, ◌∙◌, sym, ℕ, ◌+◌, ◌≤◌, ◌<◌, Bool, true, false, cond, List, [], ◌∷◌, ◌++◌, length, map, filter, refl, arith, ap, None, Ok}
use Rattle.std.specs.Prelude.{Result, ◌&&◌, nat_lt, nat_le, Option, is_some, flat_map}
use Rattle.std.specs.List.{list_any}
use Rattle.std.proofs.lemmas.Bool.Decides.{nat_tests}
use Rattle.flat_base.specs.declared.errors.Reason.{Reason}
use Rattle.flat_base.specs.declared.ids.PairNo.{PairNo}
use Rattle.flat_base.specs.declared.ids.SessionNo.{SessionNo}
use Rattle.flat_scene.specs.declared.calls.Call.{Call}
use Rattle.flat_scene.specs.declared.journal.Entry.{Entry}
use Rattle.flat_scene.specs.declared.setup.Setup.{Setup}
use Rattle.flat_scene.specs.Draft.{Draft, empty_draft}
use Rattle.flat_scene.specs.Effect.{draft_of}
use Rattle.flat_scene.specs.History.{◌▹◌, own, calls, closes, is_closed, is_finish, is_session, presents}
use Rattle.flat_scene.specs.Setups.{is_declared}
use Rattle.flat_facts.specs.declared.live_viewport.LiveViewport.{LiveViewport}
use Rattle.flat_links.specs.declared.tokens.OutToken.{OutToken}
use Rattle.flat_rules.specs.Ends.{to_finished, times, releases_viewport, viewport_uses, viewports_of, uses_viewport, is_done}
use Rattle.flat_rules.specs.Legal.{Legal, has_token, owns_viewport, is_token_back}
use Rattle.flat_facts.specs.Lives.{lives_after, count_of, releases_live}
use Rattle.flat_rules.specs.Posts.{posted, Sent}
use Rattle.flat_rules.specs.Stamps.{first_at, IsStamp, happens_often, stamp_then}
use Rattle.flat_links.specs.Viewports.{released_at, out_of, outs_of, AreViewports, marked}
use Rattle.flat_facts.proofs.lemmas.Earlier.{finished-earlier}
use Rattle.flat_rules.proofs.lemmas.EventsLocal.{flat-same, viewports-owned}
use Rattle.flat_facts.proofs.lemmas.LiveCounts.{lives-append, lived-all, lived, Lived}
use Rattle.flat_links.proofs.PairLaws.{unused-token}
use Rattle.flat_rules.proofs.lemmas.ShownSteps.{closed-before}
use Rattle.flat_facts.proofs.lemmas.StampSteps.{stamp-of, own-stamp}
use Rattle.flat_facts.proofs.lemmas.Stamped.{often-lasts, stamp-other, stamped, IsLasting}
use Rattle.flat_facts.proofs.lemmas.TokenLaw.{counted, seen-then, token-kept}
use Rattle.flat_facts.proofs.lemmas.TokensBack.{no-token}
use Rattle.flat_facts.proofs.lemmas.Uses.{uses-other}
use Rattle.flat_facts.proofs.lemmas.ViewCalls.{times-append}
use Rattle.flat_facts.proofs.lemmas.ViewHistory.{viewing-of}
use Rattle.flat_facts.proofs.lemmas.ViewLaw.{good-more}
use Rattle.flat_rules.proofs.lemmas.ListLemmas.{flat-mapped, none-put}
use Rattle.std.proofs.lemmas.List.Elements.{filter-append}
use Rattle.flat_states.proofs.lemmas.Lists.{flat-filtered}

-- ---- lists

-- ---- tokens, entry by entry

module _ (setup : Setup) (s : SessionNo) (declared : is_declared setup s ≡ true) where
  -- no use, and no end of a frame
  pub still-token : (p : PairNo) (h : List Entry) (e : Entry) → (uses_viewport p e.kind && is_done e.reply) ≡ false → is_finish e.kind ≡ false
      → has_token setup p (h ▹ e) ≡ has_token setup p h
  still-token p h e none no_finish =
      token-kept (uses_viewport p e.kind && is_done e.reply) (has_token setup p h) (list_any (λ (sent : Sent). is_token_back p sent.event) (posted setup h e))
      none (no-token setup p h e no_finish)

  -- a token that is out was used
  pub out-used : (p : PairNo) → owns_viewport setup s p ≡ true → (h : List Entry) → Legal setup h → is_closed s h ≡ false → has_token setup p h ≡ false
      → 0 < length (viewport_uses p h)
  out-used p owned h legal opened out = by_count (nat_lt 0 (length (viewport_uses p h))) refl
    where
      by_count : (b : Bool) → nat_lt 0 (length (viewport_uses p h)) ≡ b → 0 < length (viewport_uses p h)
      by_count true some = grind (arith, nat_tests)
      by_count false none =
          let zero_uses : length (viewport_uses p h) ≡ 0 = grind (arith, nat_tests) in
          let held : true ≡ false = sym (unused-token setup s p owned declared h legal opened zero_uses) ∙ out in cc

  -- ---- another's entry

  pub other-out : (p : PairNo) → owns_viewport setup s p ≡ true → (h : List Entry) (e : Entry) → Legal setup (h ▹ e) → is_closed s h ≡ false
      → is_session s e.actor ≡ false → is_finish e.kind ≡ false
      → out_of setup (h ▹ e) s p ≡ out_of setup h s p
  other-out p owned h e legal opened other no_finish = by_token (has_token setup p h) refl
    where
      same : viewport_uses p (h ▹ e) ≡ viewport_uses p h
      same = uses-other setup s p owned h e legal.1 other

      no_use : (uses_viewport p e.kind && is_done e.reply) ≡ false
      no_use = none-put e (viewport_uses p h) (uses_viewport p e.kind && is_done e.reply) same

      kept : has_token setup p (h ▹ e) ≡ has_token setup p h
      kept = still-token p h e no_use no_finish

      by_token : (b : Bool) → has_token setup p h ≡ b → out_of setup (h ▹ e) s p ≡ out_of setup h s p
      by_token true held = rw (kept, held) refl
      by_token false out =
          let n : length (viewport_uses p (h ▹ e)) ≡ length (viewport_uses p h) = ap (length {A = Entry}) same in
          let lasting = often-lasts setup (releases_viewport p) (length (viewport_uses p h)) (out-used p owned h legal.0 opened out) in
          let stamp : released_at setup (h ▹ e) s p ≡ released_at setup h s p =
          ap (λ (k : ℕ). first_at (happens_often setup (releases_viewport p) k) s (h ▹ e)) n
          ∙ stamp-other (happens_often setup (releases_viewport p) (length (viewport_uses p h))) lasting s h e other in
          ap (λ (b : Bool). cond b [] ((let o : OutToken = record { pair = p; released = released_at setup (h ▹ e) s p } in o) ∷ [])) (kept ∙ out)
          ∙ ap (λ (r : Option ℕ). let o : OutToken = record { pair = p; released = r } in o ∷ []) stamp ∙ sym (rw out refl)

  -- another's entry that ends no frame leaves all as it is
  pub viewports-other : (h : List Entry) (e : Entry) → Legal setup (h ▹ e) → is_session s e.actor ≡ false → is_finish e.kind ≡ false
      → (live : List LiveViewport) (out : List OutToken) → AreViewports setup h s live out
      → AreViewports setup (h ▹ e) s live out
  viewports-other h e legal other no_finish live out old = record {
    lives = λ o. old.lives (closed-before (is_session s e.actor) e (own s h) o) ∙ rw other refl;
    outs = λ o.
        let before : is_closed s h ≡ false = closed-before (is_session s e.actor) e (own s h) o in
        old.outs before
        ∙ sym (flat-same (owns_viewport setup s) (out_of setup (h ▹ e) s) (out_of setup h s) (λ p owned. other-out p owned h e legal before other no_finish)
        (viewports_of setup s) (viewports-owned setup s));
  }

  -- ---- its own entry that uses no viewport end of a pair

  module _ (h : List Entry) (e : Entry) (legal : Legal setup (h ▹ e)) (mine : is_session s e.actor ≡ true) (still : is_closed s (h ▹ e) ≡ false) where
    abbrev pub lives : List LiveViewport
    lives = lives_after [] (calls s h)

    opened : is_closed s h ≡ false
    opened = closed-before (is_session s e.actor) e (own s h) still

    all-calls : calls s (h ▹ e) ≡ calls s h ++ e.calls
    all-calls = rw mine refl

    -- how often its calls release a viewport of a pair
    released-more : (p : PairNo) → times setup (releases_viewport p) (Ok empty_draft) (calls s h ++ e.calls)
        ≡ times setup (releases_viewport p) (Ok empty_draft) (calls s h) + count_of (releases_live p) lives e.calls
    released-more p =
        let before = viewing-of setup s h legal.0 opened in
        let after = viewing-of setup s (h ▹ e) legal still in
        let good : draft_of setup (calls s h ++ e.calls) ≡ Ok after.draft = ap (draft_of setup) (sym all-calls) ∙ after.good in
        let first = lived-all setup (calls s h) before.draft before.good in
        let then : Lived setup before.draft e.calls after.draft =
        lived setup before.draft e.calls after.draft first.tidy (good-more setup (calls s h) e.calls before.draft after.draft before.good good) in
        let counts : times setup (releases_viewport p) (Ok before.draft) e.calls ≡ count_of (releases_live p) lives e.calls =
        then.releases p ∙ ap (λ (l : List LiveViewport). count_of (releases_live p) l e.calls) first.lives in
        times-append setup (releases_viewport p) (Ok empty_draft) (calls s h) e.calls
        ∙ ap (λ (n : ℕ). times setup (releases_viewport p) (Ok empty_draft) (calls s h) + n)
        (ap (λ (r : Result Draft Reason). times setup (releases_viewport p) r e.calls) before.good ∙ counts)

    pub own-out : (p : PairNo) → owns_viewport setup s p ≡ true → is_finish e.kind ≡ false → (uses_viewport p e.kind && is_done e.reply) ≡ false
        → out_of setup (h ▹ e) s p ≡ map (marked lives e.calls (length (presents s h))) (out_of setup h s p)
    own-out p owned no_finish no_use = by_token (has_token setup p h) refl
      where
        u : ℕ
        u = length (viewport_uses p h)

        kept : has_token setup p (h ▹ e) ≡ has_token setup p h
        kept = still-token p h e no_use no_finish

        same : viewport_uses p (h ▹ e) ≡ viewport_uses p h
        same = rw no_use refl

        by_token : (b : Bool) → has_token setup p h ≡ b → out_of setup (h ▹ e) s p ≡ map (marked lives e.calls (length (presents s h))) (out_of setup h s p)
        by_token true held = rw (kept, held) refl
        by_token false out =
            let test : List Call → Bool = happens_often setup (releases_viewport p) (length (viewport_uses p h)) in
            let lasting : IsLasting test = often-lasts setup (releases_viewport p) (length (viewport_uses p h)) (out-used p owned h legal.0 opened out) in
            let more = released-more p in
            let near = (counted setup s p owned declared h legal.0 opened).near in
            let seen = seen-then setup s p (to_finished h) h (finished-earlier h) in
            let does_it : closes e.reply ≡ false → released_at setup h s p ≡ None
            → nat_lt 0 (count_of (releases_live p) lives e.calls) ≡ test (calls s h ++ e.calls) =
            λ stays none.
            let not_yet : test (calls s h) ≡ false = sym (stamped test lasting s h).some ∙ ap is_some none in
            enough (length (viewport_uses p h)) (times setup (releases_viewport p) (Ok empty_draft) (calls s h)) (count_of (releases_live p) lives e.calls)
            not_yet (omega (arith, near, seen)) ∙ ap (λ (n : ℕ). nat_le (length (viewport_uses p h)) n) (sym more) in
            let step : IsStamp test s (h ▹ e) (stamp_then (released_at setup h s p) (nat_lt 0 (count_of (releases_live p) lives e.calls))
            (length (presents s h))) =
            own-stamp test lasting s h e (released_at setup h s p) (nat_lt 0 (count_of (releases_live p) lives e.calls)) mine opened does_it
            (stamp-of test lasting s h) in
            let n : length (viewport_uses p (h ▹ e)) ≡ length (viewport_uses p h) = ap (length {A = Entry}) same in
            let stamp : released_at setup (h ▹ e) s p ≡ stamp_then (released_at setup h s p) (nat_lt 0 (count_of (releases_live p) lives e.calls))
            (length (presents s h)) =
            ap (λ (k : ℕ). first_at (happens_often setup (releases_viewport p) k) s (h ▹ e)) n ∙ sym (step.opened still) in
            ap (λ (b : Bool). cond b [] ((let o : OutToken = record { pair = p; released = released_at setup (h ▹ e) s p } in o) ∷ [])) (kept ∙ out)
            ∙ ap (λ (r : Option ℕ). let o : OutToken = record { pair = p; released = r } in o ∷ []) stamp ∙ sym (rw out refl)
          where
            enough : (n t c : ℕ) → nat_le n t ≡ false → n ≤ t + 1 → nat_lt 0 c ≡ nat_le n (t + c)
            enough n t c over few = by_tests (nat_lt 0 c) (nat_le n (t + c)) refl refl
              where
                by_tests : (a b : Bool) → nat_lt 0 c ≡ a → nat_le n (t + c) ≡ b → a ≡ b
                by_tests true true i j = refl
                by_tests false false i j = refl
                by_tests true false i j = absurd (grind (arith, nat_tests))
                by_tests false true i j = absurd (grind (arith, nat_tests))

    pub lives-own : lives_after [] (calls s (h ▹ e)) ≡ lives_after lives e.calls
    lives-own = ap (lives_after []) all-calls ∙ lives-append [] (calls s h) e.calls

    -- its tokens that are out are marked by its calls
    pub outs-own : is_finish e.kind ≡ false → ((p : PairNo) → owns_viewport setup s p ≡ true → (uses_viewport p e.kind && is_done e.reply) ≡ false)
        → outs_of setup (h ▹ e) s ≡ map (marked lives e.calls (length (presents s h))) (outs_of setup h s)
    outs-own no_finish no_use =
        flat-same (owns_viewport setup s) (out_of setup (h ▹ e) s) (λ p. map (marked lives e.calls (length (presents s h))) (out_of setup h s p))
        (λ p owned. own-out p owned no_finish (no_use p owned)) (viewports_of setup s) (viewports-owned setup s)
        ∙ sym (flat-mapped (marked lives e.calls (length (presents s h))) (out_of setup h s) (viewports_of setup s))

  -- its own entry that uses no viewport end, whether it closes the session or not
  pub viewports-own : (h : List Entry) (e : Entry) → Legal setup (h ▹ e) → is_session s e.actor ≡ true → is_finish e.kind ≡ false
      → ((p : PairNo) → owns_viewport setup s p ≡ true → (uses_viewport p e.kind && is_done e.reply) ≡ false)
      → (live : List LiveViewport) (out : List OutToken) → AreViewports setup h s live out
      → AreViewports setup (h ▹ e) s (lives_after live e.calls) (map (marked live e.calls (length (presents s h))) out)
  viewports-own h e legal mine no_finish no_use live out old = record {
    lives = λ o.
        let before : is_closed s h ≡ false = closed-before (is_session s e.actor) e (own s h) o in
        ap (λ (l : List LiveViewport). lives_after l e.calls) (old.lives before) ∙ sym (lives-own h e legal mine o);
    outs = λ o.
        let before : is_closed s h ≡ false = closed-before (is_session s e.actor) e (own s h) o in
        ap (map (marked live e.calls (length (presents s h)))) (old.outs before)
        ∙ ap (λ (l : List LiveViewport). map (marked l e.calls (length (presents s h))) (outs_of setup h s)) (old.lives before)
        ∙ sym (outs-own h e legal mine o no_finish no_use);
  }
