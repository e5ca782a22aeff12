-- A get is of a watcher of its own session; so others ask nothing of it.
use Rattle.std.proofs.Common.{◌≡◌, ◌∙◌, sym, subst, ℕ, ◌+◌, ◌-◌, ◌<◌, Bool, true, false, List, [], ◌∷◌, ◌++◌, length, map, refl, arith, ap, Some, None, Ok}
use Rattle.std.specs.Prelude.{cond, Option, option_and_then, option_map, ◌==◌}
use Rattle.std.specs.List.{list_any}
use Rattle.std.specs.Result.{result_ok}
use Rattle.std.proofs.lemmas.Bool.Decides.{nat_tests}
use Rattle.flat_base.specs.declared.ids.Actor.{Actor}
use Rattle.flat_base.specs.declared.ids.Actor.TheVariants.{Display, Session, Probe}
use Rattle.flat_base.specs.declared.ids.PairNo.{PairNo}
use Rattle.flat_base.specs.declared.ids.SessionNo.{SessionNo}
use Rattle.flat_scene.specs.declared.calls.Watch.{Watch}
use Rattle.flat_scene.specs.declared.calls.Watch.TheVariants as watch
use Rattle.flat_scene.specs.declared.journal.Entry.{Entry}
use Rattle.flat_scene.specs.declared.journal.EntryKind.{EntryKind}
use Rattle.flat_scene.specs.declared.journal.EntryKind.TheVariants.{Get}
use Rattle.flat_scene.specs.declared.setup.Setup.{Setup}
use Rattle.flat_scene.specs.Draft.{Draft, Made, an_image, a_fill, a_viewport, of_serial, content_of}
use Rattle.flat_scene.specs.Effect.{draft_of}
use Rattle.flat_scene.specs.History.{◌▹◌, calls, is_closed, is_session}
use Rattle.flat_rules.specs.Ends.{view_owner, viewport_uses}
use Rattle.flat_gets.specs.Gets.{hears}
use Rattle.flat_rules.specs.Legal.{Legal, MayEnter, is_link, owns_view, owns_viewport}
use Rattle.flat_rules.specs.Serials.{contents_made, serials_in}
use Rattle.flat_rules.specs.Shown.{is_pair}
use Rattle.flat_rules.specs.Watch.{Watcher, layout_of, status_of, child_of, asked, listener, watcher_of, watcher_in, watcher_of_made, is_watcher, same_watcher}
use Rattle.flat_gets.proofs.lemmas.GetHistory.{owner-hears}
use Rattle.flat_facts.proofs.lemmas.LiveCounts.{made-append}
use Rattle.flat_facts.proofs.lemmas.Lives.{pair_made}
use Rattle.flat_rules.proofs.lemmas.Owned.{IsOwned, draft-owned, made_owned, view_owned}
use Rattle.flat_rules.proofs.lemmas.OwnedTree.{at-serial}
use Rattle.flat_facts.proofs.lemmas.Serials.{draft-contents, serials-count}
use Rattle.flat_rules.proofs.lemmas.SameWatchers.{same-is}
use Rattle.flat_rules.proofs.lemmas.ShownOwned.{all-calls-owned, ok-is}
use Rattle.flat_facts.proofs.lemmas.Uses.{uses-made, none-made}
use Rattle.flat_rules.proofs.lemmas.Watchers.{unasked}
use Rattle.std.proofs.lemmas.Bool.{not-true}
use Rattle.flat_rules.proofs.lemmas.WatchLocal.{one-viewport}

-- ---- a viewport of a draft was used

some-serial : (p : PairNo) (next : ℕ) (ms : List Made) (n : ℕ) (props : _) → of_serial ms n ≡ Some (a_viewport p props)
    → 0 < length (serials_in p next (map pair_made ms))
some-serial p next [] n props at = cc
some-serial p next (m ∷ ms) n props at = by_serial (some-serial p (next + 1) ms (n - 1) props) (n == 1) at
  where
    by_pair : (b : Bool) → 0 < length (serials_in p (next + 1) (map pair_made ms))
        → 0 < length (cond b (next ∷ serials_in p (next + 1) (map pair_made ms)) (serials_in p (next + 1) (map pair_made ms)))
    by_pair true some = omega arith
    by_pair false some = some

    by_serial : (of_serial ms (n - 1) ≡ Some (a_viewport p props) → 0 < length (serials_in p (next + 1) (map pair_made ms))) → (b : Bool)
        → cond b (Some m) (of_serial ms (n - 1)) ≡ Some (a_viewport p props)
        → 0 < length (serials_in p next (map pair_made (m ∷ ms)))
    by_serial later true is =
        let itself : m ≡ a_viewport p props = cc in
        let same : (p.0 == p.0) ≡ true = grind (arith, nat_tests) in
        let S : Made → Type 0 = λ made. 0 < length (serials_in p next (map pair_made (made ∷ ms))) in
        subst S (sym itself) (rw same (omega arith))
    by_serial later false is = by_pair (is_pair (pair_made m) p) (later is)

-- ---- what a get of a session means

-- A watcher that a get of a session means: of the session's view, or of the child of the last use, of which there is one.
pub data IsMeant (setup : Setup) (h : List Entry) (t : SessionNo) : Watcher → Type 0 where
  of_layout : (q : PairNo) → owns_view setup t q ≡ true → IsMeant setup h t (layout_of q)
  of_status : (q : PairNo) → owns_view setup t q ≡ true → IsMeant setup h t (status_of q)
  of_child : (q : PairNo) → owns_viewport setup t q ≡ true → 0 < length (viewport_uses q h) → IsMeant setup h t (child_of q (length (viewport_uses q h)))

pub meant-heard : (setup : Setup) (h : List Entry) (t : SessionNo) (w : Watcher) → IsMeant setup h t w → hears setup t w ≡ true
meant-heard setup h t w (of_layout q owned) = owner-hears t (view_owner setup q) owned
meant-heard setup h t w (of_status q owned) = owner-hears t (view_owner setup q) owned
meant-heard setup h t w (of_child q owned some) = owned

module _ (setup : Setup) (h : List Entry) (e : Entry) (legal : Legal setup (h ▹ e)) (t : SessionNo) (is : e.actor ≡ Session t) (get : Watch)
    (asks : e.kind ≡ Get get) where
  may : MayEnter setup h (Session t) e.calls (Get get)
  may =
      let K : EntryKind → Type 0 = λ kind. MayEnter setup h e.actor e.calls kind in
      let A : Actor → Type 0 = λ who. MayEnter setup h who e.calls (Get get) in
      subst A is (subst K asks legal.1.may)

  mine : is_session t e.actor ≡ true
  mine = let same : (t.0 == t.0) ≡ true = grind (arith, nat_tests) in rw is same

  -- the session is open
  pub get-open : is_closed t h ≡ false
  get-open = let m : MayEnter setup h (Session t) e.calls (Get get) = may in not-true (is_closed t h) (grind (arith, m.lasts))

  owned-draft : (d : Draft) → draft_of setup (calls t h ++ e.calls) ≡ Ok d → IsOwned setup t d
  owned-draft d good = draft-owned setup t (calls t h ++ e.calls) (all-calls-owned setup h e legal t mine) d good

  used-viewport : (d : Draft) → draft_of setup (calls t h ++ e.calls) ≡ Ok d → (q : PairNo) → owns_viewport setup t q ≡ true → (n : ℕ) (props : _)
      → of_serial d.contents n ≡ Some (a_viewport q props) → 0 < length (viewport_uses q h)
  used-viewport d good q owned n props at =
      let no_link : list_any is_link e.calls ≡ false = not-true (list_any is_link e.calls) may.links in
      let some : 0 < length (serials_in q 1 (map pair_made d.contents)) = some-serial q 1 d.contents n props at in
      let same : length (serials_in q 1 (map pair_made d.contents)) ≡ length (serials_in q 1 (contents_made (calls t h ++ e.calls))) =
      ap (λ l. length (serials_in q 1 l)) (draft-contents setup (calls t h ++ e.calls) d good) in
      omega (
        arith,
        some,
        same,
        serials-count q 1 (calls t h ++ e.calls),
        made-append q (calls t h) e.calls,
        none-made q e.calls no_link,
        uses-made setup t q owned h legal.0 get-open,
      )

  moved : (u w : Watcher) → u ≡ w → IsMeant setup h t u → IsMeant setup h t w
  moved u w same meant = subst (λ (v : Watcher). IsMeant setup h t v) same meant

  by-view : (f : PairNo → Watcher) → ((q : PairNo) → owns_view setup t q ≡ true → IsMeant setup h t (f q)) → (o : Option PairNo) → view_owned setup t o ≡ true
      → (w : Watcher) → option_map f o ≡ Some w → IsMeant setup h t w
  by-view f of None owned w h = cc
  by-view f of (Some q) owned w h = moved (f q) w (cc) (of q owned)

  by-made : (d : Draft) → draft_of setup (calls t h ++ e.calls) ≡ Ok d → (n : ℕ) (o : Option Made) → of_serial d.contents n ≡ o → (w : Watcher)
      → option_and_then (watcher_of_made setup h) o ≡ Some w → IsMeant setup h t w
  by-made d good n None at w m = cc
  by-made d good n (Some (an_image i)) at w m = cc
  by-made d good n (Some (a_fill x)) at w m = cc
  by-made d good n (Some (a_viewport q props)) at w m =
      let owned : owns_viewport setup t q ≡ true = at-serial (made_owned setup t) d.contents n (a_viewport q props) (owned-draft d good).contents at in
      moved (child_of q (length (viewport_uses q h))) w (cc) (of_child q owned (used-viewport d good q owned n props at))

  by-content : (d : Draft) → draft_of setup (calls t h ++ e.calls) ≡ Ok d → (o : Option ℕ) → (w : Watcher)
      → option_and_then (watcher_of_made setup h) (option_and_then (of_serial d.contents) o) ≡ Some w → IsMeant setup h t w
  by-content d good None w m = cc
  by-content d good (Some n) w m = by-made d good n (of_serial d.contents n) refl w m

  in-draft : (d : Draft) → draft_of setup (calls t h ++ e.calls) ≡ Ok d → (g : Watch) → (w : Watcher) → watcher_in setup h d g ≡ Some w → IsMeant setup h t w
  in-draft d good watch.Layout w m = by-view layout_of of_layout d.view (owned-draft d good).view w m
  in-draft d good watch.Status w m = by-view status_of of_status d.view (owned-draft d good).view w m
  in-draft d good (watch.Child c) w m = by-content d good (content_of d c) w m

  pub get-meant : (w : Watcher) → watcher_of setup h (Session t) e.calls get ≡ Some w → IsMeant setup h t w
  get-meant w m = by_draft (result_ok (draft_of setup (calls t h ++ e.calls))) refl m
    where
      by_draft : (o : Option Draft) → result_ok (draft_of setup (calls t h ++ e.calls)) ≡ o → option_and_then (λ d. watcher_in setup h d get) o ≡ Some w
          → IsMeant setup h t w
      by_draft None i a = cc
      by_draft (Some d) i a = in-draft d (ok-is setup (draft_of setup (calls t h ++ e.calls)) d i) get w a

-- ---- who isn't asked

module _ (setup : Setup) where
  -- another session's get asks nothing of a session's watchers
  pub others-unasked : (h : List Entry) (e : Entry) → Legal setup (h ▹ e) → (s : SessionNo) → is_session s e.actor ≡ false → (w : Watcher)
      → hears setup s w ≡ true → asked setup w h e ≡ None
  others-unasked h e legal s other w heard = unasked setup w h e (λ get asks. by_actor get asks e.actor refl)
    where
      by_actor : (get : Watch) → e.kind ≡ Get get → (who : Actor) → e.actor ≡ who → is_watcher setup w (watcher_of setup h who e.calls get) ≡ false
      by_actor get asks Display is = refl
      by_actor get asks (Probe n) is = refl
      by_actor get asks (Session t) is = by_watcher (watcher_of setup h (Session t) e.calls get) refl
        where
          by_same : (u : Watcher) → watcher_of setup h (Session t) e.calls get ≡ Some u → (b : Bool) → same_watcher w u ≡ b → b ≡ false
          by_same u means false differ = refl
          by_same u means true same =
              let theirs : hears setup t u ≡ true = meant-heard setup h t u (get-meant setup h e legal t is get asks u means) in
              let it : w ≡ u = same-is w u same in
              let H : Watcher → Type 0 = λ v. hears setup t v ≡ true in
              let sessions : s ≡ t = one-viewport (listener setup w) s t heard (subst H (sym it) theirs) in
              let S : SessionNo → Type 0 = λ r. is_session r e.actor ≡ false in
              let wrong : is_session t e.actor ≡ false = subst S sessions other in
              let right : is_session t e.actor ≡ true = mine setup h e legal t is get asks in
              sym right ∙ wrong

          by_watcher : (o : Option Watcher) → watcher_of setup h (Session t) e.calls get ≡ o → is_watcher setup w o ≡ false
          by_watcher None means = refl
          by_watcher (Some u) means = by_same u means (same_watcher w u) refl
