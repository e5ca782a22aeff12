-- Of a view that wasn't made no get of its layout or status is held.
use Rattle.std.proofs.Common.{◌≡◌, ◌∙◌, sym, Bool, true, false, List, [], ◌++◌, length, refl, arith, ap, Option, Some, None, Ok}
use Rattle.std.specs.Prelude.{◌&&◌, ◌==◌, option_map, option_and_then}
use Rattle.std.specs.List.{list_any}
use Rattle.std.specs.Result.{result_ok}
use Rattle.std.proofs.lemmas.Bool.Decides.{nat_tests}
use Rattle.std.proofs.lemmas.List.{append-nil}
use Rattle.flat_base.specs.declared.ids.Actor.{Actor}
use Rattle.flat_base.specs.declared.ids.Actor.TheVariants.{Display, Session, Probe}
use Rattle.flat_base.specs.declared.ids.PairNo.{PairNo}
use Rattle.flat_base.specs.declared.ids.SessionNo.{SessionNo}
use Rattle.flat_scene.specs.declared.calls.Call.{Call}
use Rattle.flat_scene.specs.declared.calls.Watch.{Watch}
use Rattle.flat_scene.specs.declared.calls.Watch.TheVariants as watch
use Rattle.flat_scene.specs.declared.journal.Entry.{Entry}
use Rattle.flat_scene.specs.declared.journal.EntryKind.{EntryKind}
use Rattle.flat_scene.specs.declared.journal.EntryKind.TheVariants.{Get}
use Rattle.flat_scene.specs.declared.setup.Setup.{Setup}
use Rattle.flat_scene.specs.Draft.{Draft, Made, an_image, a_fill, a_viewport, made_of}
use Rattle.flat_scene.specs.Effect.{draft_of}
use Rattle.flat_scene.specs.History.{◌▹◌, calls, presents, is_closed}
use Rattle.flat_rules.specs.Ends.{uses_view, is_done}
use Rattle.flat_rules.specs.Legal.{Legal, MayEnter, is_link}
use Rattle.flat_rules.specs.Shown.{is_pair}
use Rattle.flat_rules.specs.Watch.{Watcher, layout_of, status_of, watching, told, asked, asked_in, is_open, listener, watcher_of, watcher_in, watcher_of_made}
use Rattle.flat_rules.specs.Watch.{is_watcher, same_watcher}
use Rattle.flat_watch.specs.Told.{Watching, asking, settled}
use Rattle.flat_rules.proofs.lemmas.ShownOwned.{ok-is}
use Rattle.flat_facts.proofs.lemmas.ViewUses.{viewed-more}
use Rattle.flat_facts.proofs.lemmas.ViewCalls.{no-links-view}
use Rattle.flat_facts.proofs.lemmas.ViewHistory.{used_in, viewing-of}
use Rattle.flat_facts.proofs.lemmas.ViewLaw.{viewing-more, MadeOf}
use Rattle.std.proofs.lemmas.Bool.{not-true, or_parts}
use Rattle.flat_rules.proofs.lemmas.SameWatchers.{nothing-settled}

-- the draft of a get has a view that was made before
pub watched-used : (setup : Setup) (before : List Entry) (carries : List Call) (t : SessionNo) (get : Watch) → Legal setup before
    → MayEnter setup before (Session t) carries (Get get)
    → (d : Draft) → draft_of setup (calls t before ++ carries) ≡ Ok d → (q : PairNo) → is_pair d.view q ≡ true → used_in before q ≡ true
watched-used setup before carries t get legal may d good q here =
    let opened : is_closed t before ≡ false = not-true (is_closed t before) (grind (arith, may.lasts)) in
    let view = viewing-of setup t before legal opened in
    let no_link : list_any is_link carries ≡ false = not-true (list_any is_link carries) may.links in
    let none : MadeOf (presents t before) [] (calls t before ++ carries) =
    λ n past few. let same : length (presents t before ++ []) ≡ length (presents t before) =
    ap length (append-nil (presents t before)) in absurd (omega (arith, past, few, same)) in
    let more = viewing-more setup t (used_in before) (calls t before) (presents t before) _ view carries [] d (no-links-view carries no_link) good none in
    let same : Ok more.draft ≡ Ok d = sym more.good ∙ good in
    let drafts : more.draft ≡ d = cc in
    (more.held q (ap (λ (x : Draft). is_pair x.view q) drafts ∙ here)).1

module _ (setup : Setup) (q : PairNo) where
  -- a watcher of the layout or the status of this pair
  pub data IsOfView : Watcher → Type 0 where
    is_layout : IsOfView (layout_of q)
    is_status : IsOfView (status_of q)

  other-pair : (p : PairNo) (b : Bool) → (q.0 == p.0) ≡ b → (is_pair (Some p) q ≡ true → false ≡ true) → b ≡ false
  other-pair p false is never = refl
  other-pair p true is never = let number : (p.0 == q.0) ≡ true = grind (arith, nat_tests) in sym (never number)

  by-view : (f g : PairNo → Watcher) (w : Watcher) → ((p : PairNo) → (same_watcher w (f p) ≡ (q.0 == p.0)) × (same_watcher w (g p) ≡ false))
      → (view : Option PairNo) → (is_pair view q ≡ true → false ≡ true)
      → (is_watcher setup w (option_map f view) ≡ false) × (is_watcher setup w (option_map g view) ≡ false)
  by-view f g w same None never = (refl, refl)
  by-view f g w same (Some p) never = ((same p).0 ∙ other-pair p (q.0 == p.0) refl never, (same p).1)

  by-made : (before : List Entry) (w : Watcher) → IsOfView w → (m : Option Made) → is_watcher setup w (option_and_then (watcher_of_made setup before) m) ≡ false
  by-made before w is None = refl
  by-made before w is (Some (an_image i)) = refl
  by-made before w is (Some (a_fill x)) = refl
  by-made before w is_layout (Some (a_viewport p props)) = refl
  by-made before w is_status (Some (a_viewport p props)) = refl

  in-draft : (before : List Entry) (w : Watcher) → IsOfView w → (d : Draft) → (is_pair d.view q ≡ true → false ≡ true) → (get : Watch)
      → is_watcher setup w (watcher_in setup before d get) ≡ false
  in-draft before w is_layout d never watch.Layout = (by-view layout_of status_of (layout_of q) (λ p. (refl, refl)) d.view never).0
  in-draft before w is_status d never watch.Layout = (by-view status_of layout_of (status_of q) (λ p. (refl, refl)) d.view never).1
  in-draft before w is_layout d never watch.Status = (by-view layout_of status_of (layout_of q) (λ p. (refl, refl)) d.view never).1
  in-draft before w is_status d never watch.Status = (by-view status_of layout_of (status_of q) (λ p. (refl, refl)) d.view never).0
  in-draft before w is d never (watch.Child c) = by-made before w is (made_of d c)

  by-actor : (before : List Entry) (w : Watcher) → IsOfView w → (actor : Actor) (carries : List Call) (get : Watch) → Legal setup before
      → MayEnter setup before actor carries (Get get) → used_in before q ≡ false
      → is_watcher setup w (watcher_of setup before actor carries get) ≡ false
  by-actor before w is Display carries get legal may unused = refl
  by-actor before w is (Probe n) carries get legal may unused = refl
  by-actor before w is (Session t) carries get legal may unused = by_draft (result_ok (draft_of setup (calls t before ++ carries))) refl
    where
      by_draft : (o : Option Draft) → result_ok (draft_of setup (calls t before ++ carries)) ≡ o
          → is_watcher setup w (option_and_then (λ d. watcher_in setup before d get) o) ≡ false
      by_draft None e = refl
      by_draft (Some d) e =
          in-draft before w is d (λ here. sym unused ∙ watched-used setup before carries t get legal may d
          (ok-is setup (draft_of setup (calls t before ++ carries)) d e) q here) get

  unasked : (before : List Entry) (w : Watcher) → IsOfView w → (e : Entry) → Legal setup before → (kind : EntryKind)
      → MayEnter setup before e.actor e.calls kind
      → used_in before q ≡ false → asked_in setup w before e kind ≡ None
  unasked before w is e legal (Get get) may unused = rw (by-actor before w is e.actor e.calls get legal may unused) refl
  unasked before w is e legal _ may unused = refl

  -- what wasn't made wasn't asked
  pub unwatched : (h : List Entry) (w : Watcher) → IsOfView w → Legal setup h → used_in h q ≡ false → watching setup w h ≡ record { last = None; waits = None }
  unwatched [] w is legal unused = refl
  unwatched (h ▹ e) w is legal unused =
      let before : used_in h q ≡ false = (or_parts (used_in h q) (uses_view q e.kind && is_done e.reply) (sym (viewed-more q e h) ∙ unused)).0 in
      let old : watching setup w h ≡ record { last = None; waits = None } = unwatched h w is legal.0 before in
      let none : asked setup w h e ≡ None = unasked h w is e legal.0 e.kind legal.1.may before in
      let fresh : Watching = record { last = None; waits = None } in
      let now : asking (asked setup w h e) (watching setup w h) ≡ fresh =
      ap (λ (a : Option Watch). asking a (watching setup w h)) none ∙ ap (λ (v : Watching). asking None v) old in
      ap (λ (v : Watching). settled (is_open setup (listener setup w) (h ▹ e)) (told setup (h ▹ e) w) v) now
      ∙ nothing-settled (is_open setup (listener setup w) (h ▹ e)) (told setup (h ▹ e) w)
