-- What the ends of a pair tell, by what is kept: stamps, what finished frames had taken, and what they showed.
use Rattle.std.proofs.Common.{◌≡◌, ◌∙◌, sym, ℕ, ◌+◌, Bool, true, false, List, [], ◌++◌, length, refl, arith, ap, Some, None, Ok}
use Rattle.std.specs.Prelude.{◌&&◌, ◌||◌, nat_lt, Option, Result, is_some, option_map, unwrap_or}
use Rattle.std.proofs.lemmas.Bool.Decides.{nat_tests}
use Rattle.flat_base.specs.declared.errors.Reason.{Reason}
use Rattle.flat_base.specs.declared.ids.Actor.TheVariants.{Display, Session}
use Rattle.flat_base.specs.declared.ids.PairNo.{PairNo}
use Rattle.flat_base.specs.declared.ids.SessionNo.{SessionNo}
use Rattle.flat_scene.specs.declared.calls.Call.{Call}
use Rattle.flat_scene.specs.declared.journal.Entry.{Entry}
use Rattle.flat_scene.specs.declared.setup.Setup.{Setup}
use Rattle.flat_scene.specs.Draft.{Draft, empty_draft}
use Rattle.flat_scene.specs.Effect.{draft_of}
use Rattle.flat_scene.specs.Frames.{taken}
use Rattle.flat_scene.specs.History.{◌▹◌, calls, closes, is_closed, is_session, presents}
use Rattle.flat_facts.specs.declared.live_viewport.LiveViewport.{LiveViewport}
use Rattle.flat_rules.specs.Ends.{times, happens, ends_view, clears_viewport, loses, is_viewport_lost, is_view_lost, viewport_owner, view_owner, to_finished}
use Rattle.flat_rules.specs.Legal.{Legal}
use Rattle.flat_facts.specs.Lives.{lives_after, clears_live, count_of}
use Rattle.flat_rules.specs.Shown.{is_pair, shown_view, is_connected}
use Rattle.flat_rules.specs.Stamps.{IsStamp, is_seen, stamp_then}
use Rattle.flat_facts.specs.Views.{view_after, ends_of}
use Rattle.flat_links.specs.Views.{layout_by, status_by, child_by}
use Rattle.flat_rules.specs.Watch.{told, layout_of, status_of, child_of, are_joined, props_told, ratio_told}
use Rattle.flat_facts.proofs.lemmas.Earlier.{finished-earlier}
use Rattle.flat_facts.proofs.lemmas.LiveCounts.{lived-all, lived, Lived}
use Rattle.flat_facts.proofs.lemmas.StampSteps.{own-stamp, stamp-ended}
use Rattle.flat_facts.proofs.lemmas.Stamped.{stamped, happening-lasts}
use Rattle.flat_facts.proofs.lemmas.ViewCalls.{times-append}
use Rattle.flat_facts.proofs.lemmas.ViewHistory.{viewing-of}
use Rattle.flat_facts.proofs.lemmas.ViewLaw.{good-more}
use Rattle.flat_facts.proofs.lemmas.ViewsLeft.{viewed}

-- ---- what an entry does to the stamps of an end

module _ (setup : Setup) (s : SessionNo) (h : List Entry) (e : Entry) (legal : Legal setup (h ▹ e)) (mine : is_session s e.actor ≡ true) where
  all-calls : calls s (h ▹ e) ≡ calls s h ++ e.calls
  all-calls = rw mine refl

  shut : closes e.reply ≡ false → is_closed s h ≡ false → is_closed s (h ▹ e) ≡ false
  shut stays opened = rw (mine, stays) opened

  -- a first time, by how often it happens at the entry's calls
  happens-now : (test : Draft → Call → Bool) (d : Draft) (n : ℕ) → draft_of setup (calls s h) ≡ Ok d → times setup test (Ok d) e.calls ≡ n
      → happens setup test (calls s h) ≡ false → nat_lt 0 n ≡ happens setup test (calls s h ++ e.calls)
  happens-now test d n good is none =
      let all : times setup test (Ok empty_draft) (calls s h ++ e.calls) ≡ times setup test (Ok empty_draft) (calls s h) + n =
      times-append setup test (Ok empty_draft) (calls s h) e.calls
      ∙ ap (λ (k : ℕ). times setup test (Ok empty_draft) (calls s h) + k) (ap (λ (r : Result Draft Reason). times setup test r e.calls) good ∙ is) in
      let zero_before : times setup test (Ok empty_draft) (calls s h) ≡ 0 = grind (arith, nat_tests) in
      ap (λ (k : ℕ). nat_lt 0 k) (sym (all ∙ ap (λ (k : ℕ). k + n) zero_before ∙ omega arith))

  -- the stamp of the end of a pair's view
  pub view-stamp : is_closed s h ≡ false → (p : PairNo) (view : Option PairNo) → view ≡ view_after None (calls s h) → (stamp : Option ℕ)
      → IsStamp (happens setup (ends_view p)) s h stamp
      → IsStamp (happens setup (ends_view p)) s (h ▹ e) (stamp_then stamp (nat_lt 0 (ends_of p view e.calls)) (length (presents s h)))
  view-stamp opened p view is stamp old =
      own-stamp (happens setup (ends_view p)) (happening-lasts setup (ends_view p)) s h e stamp (nat_lt 0 (ends_of p view e.calls)) mine opened
      (λ stays none.
      let before = viewing-of setup s h legal.0 opened in
      let after = viewing-of setup s (h ▹ e) legal (shut stays opened) in
      let good : draft_of setup (calls s h ++ e.calls) ≡ Ok after.draft = ap (draft_of setup) (sym all-calls) ∙ after.good in
      let then = viewed setup before.draft e.calls after.draft (good-more setup (calls s h) e.calls before.draft after.draft before.good good) in
      let first : view ≡ before.draft.view = is ∙ sym (viewed setup empty_draft (calls s h) before.draft before.good).view in
      let counts : times setup (ends_view p) (Ok before.draft) e.calls ≡ ends_of p view e.calls =
      then.ends p ∙ ap (λ (v : Option PairNo). ends_of p v e.calls) (sym first) in
      let not_yet : happens setup (ends_view p) (calls s h) ≡ false =
      sym (stamped (happens setup (ends_view p)) (happening-lasts setup (ends_view p)) s h).some ∙ ap is_some (sym (old.opened opened) ∙ none) in
      happens-now (ends_view p) before.draft (ends_of p view e.calls) before.good counts not_yet) old

  -- the stamp of the first Clear while a viewport of the pair lived
  pub clear-stamp : is_closed s h ≡ false → (p : PairNo) (live : List LiveViewport) → live ≡ lives_after [] (calls s h) → (stamp : Option ℕ)
      → IsStamp (happens setup (clears_viewport p)) s h stamp
      → IsStamp (happens setup (clears_viewport p)) s (h ▹ e) (stamp_then stamp (nat_lt 0 (count_of (clears_live p) live e.calls)) (length (presents s h)))
  clear-stamp opened p live is stamp old =
      own-stamp (happens setup (clears_viewport p)) (happening-lasts setup (clears_viewport p)) s h e stamp (nat_lt 0 (count_of (clears_live p) live e.calls))
      mine opened
      (λ stays none.
      let before = viewing-of setup s h legal.0 opened in
      let after = viewing-of setup s (h ▹ e) legal (shut stays opened) in
      let good : draft_of setup (calls s h ++ e.calls) ≡ Ok after.draft = ap (draft_of setup) (sym all-calls) ∙ after.good in
      let first = lived-all setup (calls s h) before.draft before.good in
      let then : Lived setup before.draft e.calls after.draft =
      lived setup before.draft e.calls after.draft first.tidy (good-more setup (calls s h) e.calls before.draft after.draft before.good good) in
      let counts : times setup (clears_viewport p) (Ok before.draft) e.calls ≡ count_of (clears_live p) live e.calls =
      then.clears p ∙ ap (λ (l : List LiveViewport). count_of (clears_live p) l e.calls) (first.lives ∙ sym is) in
      let not_yet : happens setup (clears_viewport p) (calls s h) ≡ false =
      sym (stamped (happens setup (clears_viewport p)) (happening-lasts setup (clears_viewport p)) s h).some
      ∙ ap is_some (sym (old.opened opened) ∙ none) in
      happens-now (clears_viewport p) before.draft (count_of (clears_live p) live e.calls) before.good counts not_yet) old

-- ---- what is lost, and told

module _ (setup : Setup) (h : List Entry) (p : PairNo) where
  -- whether the end of a session's viewport is lost for finished frames
  pub viewport-lost : (v : SessionNo) → viewport_owner setup p ≡ Some (Session v) → (stamp : Option ℕ) → IsStamp (happens setup (clears_viewport p)) v h stamp
      → is_viewport_lost setup (to_finished h) p ≡ (is_closed v (to_finished h) || is_seen stamp (taken setup (to_finished h) v))
  viewport-lost v owner stamp is = ap (loses setup (clears_viewport p) (to_finished h)) owner
      ∙ stamp-ended setup (clears_viewport p) v (to_finished h) h stamp (finished-earlier h) is

  -- the display's never is
  pub display-keeps : viewport_owner setup p ≡ Some Display → is_viewport_lost setup (to_finished h) p ≡ false
  display-keeps owner = ap (loses setup (clears_viewport p) (to_finished h)) owner

  pub view-lost : (w : SessionNo) → view_owner setup p ≡ Some w → (stamp : Option ℕ) → IsStamp (happens setup (ends_view p)) w h stamp
      → is_view_lost setup (to_finished h) p ≡ (is_closed w (to_finished h) || is_seen stamp (taken setup (to_finished h) w))
  view-lost w owner stamp is = ap (λ (o : Option SessionNo). loses setup (ends_view p) (to_finished h) (option_map Session o)) owner
      ∙ stamp-ended setup (ends_view p) w (to_finished h) h stamp (finished-earlier h) is

  pub layout-told : told setup h (layout_of p) ≡ layout_by (ratio_told setup h) (is_viewport_lost setup (to_finished h) p) (are_joined setup h p)
      (props_told setup (viewport_owner setup p) h p)
  layout-told = refl

  pub status-told : (w : SessionNo) → view_owner setup p ≡ Some w
      → told setup h (status_of p) ≡ status_by (is_viewport_lost setup (to_finished h) p) (are_joined setup h p)
      (is_pair (shown_view setup (to_finished h) w) p && is_connected setup (to_finished h) w)
  status-told w owner =
      ap (status_by (is_viewport_lost setup (to_finished h) p) (are_joined setup h p))
      (ap (λ (o : Option SessionNo). unwrap_or (option_map (λ (s : SessionNo). is_pair (shown_view setup (to_finished h) s) p) o) false
      && unwrap_or (option_map (is_connected setup (to_finished h)) o) false) owner)

  pub child-told : (w : SessionNo) (n : ℕ) → view_owner setup p ≡ Some w
      → told setup h (child_of p n) ≡ child_by (is_view_lost setup (to_finished h) p) (is_pair (shown_view setup (to_finished h) w) p)
  child-told w n owner =
      ap (λ (o : Option SessionNo). child_by (is_view_lost setup (to_finished h) p)
      (unwrap_or (option_map (λ (s : SessionNo). is_pair (shown_view setup (to_finished h) s) p) o) false)) owner
