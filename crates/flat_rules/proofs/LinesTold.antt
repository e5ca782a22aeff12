-- What watchers tell and answer hangs on no line.
use Rattle.std.proofs.Common.{◌≡◌, ◌∙◌, ℕ, false, cond, List, [], ◌++◌, not, length, refl, ap, Option, Some, None}
use Rattle.std.specs.Prelude.{◌&&◌, option_map, option_and_then, unwrap_or, nat_lt}
use Rattle.std.specs.Result.{result_ok}
use Rattle.flat_base.specs.declared.ids.Actor.{Actor}
use Rattle.flat_base.specs.declared.ids.Actor.TheVariants.{Display, Session, Probe}
use Rattle.flat_base.specs.declared.ids.PairNo.{PairNo}
use Rattle.flat_base.specs.declared.ids.SessionNo.{SessionNo}
use Rattle.flat_scene.specs.declared.calls.Call.{Call}
use Rattle.flat_scene.specs.declared.calls.Watch.{Watch}
use Rattle.flat_scene.specs.declared.calls.Watch.TheVariants as watch
use Rattle.flat_scene.specs.declared.journal.Entry.{Entry}
use Rattle.flat_scene.specs.declared.journal.EntryKind.{EntryKind}
use Rattle.flat_scene.specs.declared.journal.EntryKind.TheVariants.{Get}
use Rattle.flat_scene.specs.declared.journal.WatcherValue.TheVariants as tell
use Rattle.flat_scene.specs.declared.setup.Setup.{Setup}
use Rattle.flat_scene.specs.declared.trees.Tree.{Tree}
use Rattle.flat_scene.specs.Draft.{Draft, Made, an_image, a_fill, a_viewport, made_of}
use Rattle.flat_scene.specs.Effect.{draft_of}
use Rattle.flat_scene.specs.Frames.{ratio, ratio_set}
use Rattle.flat_scene.specs.History.{◌▹◌, is_finish}
use Rattle.flat_rules.specs.Determined.{but_line}
use Rattle.flat_rules.specs.Ends.{to_begin, to_finished, props_of, viewport_uses, viewport_owner, view_owner, taken_calls, is_viewport_lost, is_view_lost}
use Rattle.flat_rules.specs.Ends.{clears_viewport, ends_view}
use Rattle.flat_rules.specs.Shown.{is_pair}
use Rattle.flat_rules.specs.Watch.{Watcher, layout_of, status_of, child_of, layout_in, display_props, ratio_told, is_used, are_joined, props_given, props_seen}
use Rattle.flat_rules.specs.Watch.{props_told, shows_view, is_connected_by, told, watcher_of_made, watcher_in, watcher_of, is_watcher, asked_in, is_open}
use Rattle.flat_rules.specs.Watch.{listener, watching}
use Rattle.flat_watch.specs.Told.{settled, asking}
use Rattle.std.specs.Option.{option_or}
use Rattle.flat_rules.proofs.Lines.{lined, calls-lined, closed-lined, begin-lined, finished-lined, taken-calls-lined, shown-lined, connected-lined}
use Rattle.flat_rules.proofs.Lines.{viewports-lined, view-count, viewport-count, loses-lined}

module _ (setup : Setup) where
  -- ---- what is told

  viewport-lost : (p : PairNo) (h : List Entry) → is_viewport_lost setup (to_finished (lined h)) p ≡ is_viewport_lost setup (to_finished h) p
  viewport-lost p h =
      ap (λ (g : List Entry). is_viewport_lost setup g p) (finished-lined h) ∙ loses-lined setup (clears_viewport p) (to_finished h) (viewport_owner setup p)

  view-lost : (p : PairNo) (h : List Entry) → is_view_lost setup (to_finished (lined h)) p ≡ is_view_lost setup (to_finished h) p
  view-lost p h =
      ap (λ (g : List Entry). is_view_lost setup g p) (finished-lined h)
      ∙ loses-lined setup (ends_view p) (to_finished h) (option_map Session (view_owner setup p))

  used-lined : (owner : Option Actor) (p : PairNo) (h : List Entry) → is_used setup owner p (lined h) ≡ is_used setup owner p h
  used-lined None p h = ap (nat_lt 0) (viewport-count setup p h)
  used-lined (Some Display) p h = refl
  used-lined (Some (Session s)) p h = ap (nat_lt 0) (viewport-count setup p h)
  used-lined (Some (Probe n)) p h = ap (nat_lt 0) (viewport-count setup p h)

  joined-lined : (p : PairNo) (h : List Entry) → are_joined setup (lined h) p ≡ are_joined setup h p
  joined-lined p h = λ i. nat_lt 0 (view-count setup p h i) && used-lined (viewport_owner setup p) p h i

  given-lined : (us : List Entry) → props_given setup (lined us) ≡ props_given setup us
  given-lined [] = refl
  given-lined (before ▹ e) = refl

  calls-begun : (h : List Entry) (s : SessionNo) → taken_calls setup (to_begin (lined h)) s ≡ taken_calls setup (to_begin h) s
  calls-begun h s = ap (λ (g : List Entry). taken_calls setup g s) (begin-lined h) ∙ taken-calls-lined setup (to_begin h) s

  seen-lined : (p : PairNo) (n : ℕ) (s : SessionNo) (h : List Entry) → props_seen setup p n s (lined h) ≡ props_seen setup p n s h
  seen-lined p n s [] = refl
  seen-lined p n s (before ▹ e) =
      λ i. option_or (cond (is_finish e.kind) (option_and_then (props_of p n) (result_ok (draft_of setup (calls-begun before s i)))) None)
      (seen-lined p n s before i)

  -- the pixel ratio that is told
  ratio-lined : (h : List Entry) → ratio setup (lined h) ≡ ratio setup h
  ratio-lined [] = refl
  ratio-lined (before ▹ e) = λ i. unwrap_or (ratio_set e.kind) (ratio-lined before i)

  ratio-told : (h : List Entry) → ratio_told setup (lined h) ≡ ratio_told setup h
  ratio-told h = ap (ratio setup) (finished-lined h) ∙ ratio-lined (to_finished h)

  props-lined : (owner : Option Actor) (p : PairNo) (h : List Entry) → props_told setup owner (lined h) p ≡ props_told setup owner h p
  props-lined None p h = refl
  props-lined (Some Display) p h = λ i. Some (display_props (ratio-told h i) setup)
  props-lined (Some (Probe n)) p h = refl
  props-lined (Some (Session s)) p h =
      let seen : props_seen setup p (length (viewport_uses p (lined h))) s (lined h) ≡ props_seen setup p (length (viewport_uses p h)) s h =
      ap (λ (n : ℕ). props_seen setup p n s (lined h)) (viewport-count setup p h) ∙ seen-lined p (length (viewport_uses p h)) s h in
      let given : props_given setup (viewport_uses p (lined h)) ≡ props_given setup (viewport_uses p h) =
      ap (props_given setup) (viewports-lined setup p h) ∙ given-lined (viewport_uses p h) in
      λ i. option_or (seen i) (given i)

  shows-lined : (p : PairNo) (h : List Entry) → shows_view setup (lined h) p ≡ shows_view setup h p
  shows-lined p h = λ i. unwrap_or (option_map (λ s. is_pair (option_and_then (λ (t : Tree). t.view) (shown-lined setup h i s)) p) (view_owner setup p)) false

  connected-by : (p : PairNo) (h : List Entry) → is_connected_by setup (lined h) p ≡ is_connected_by setup h p
  connected-by p h = λ i. shows-lined p h i && unwrap_or (option_map (λ s. connected-lined setup h s i) (view_owner setup p)) false

  shows-finished : (p : PairNo) (h : List Entry) → shows_view setup (to_finished (lined h)) p ≡ shows_view setup (to_finished h) p
  shows-finished p h = ap (λ (g : List Entry). shows_view setup g p) (finished-lined h) ∙ shows-lined p (to_finished h)

  connected-finished : (p : PairNo) (h : List Entry) → is_connected_by setup (to_finished (lined h)) p ≡ is_connected_by setup (to_finished h) p
  connected-finished p h = ap (λ (g : List Entry). is_connected_by setup g p) (finished-lined h) ∙ connected-by p (to_finished h)

  pub told-lined : (watcher : Watcher) (h : List Entry) → told setup (lined h) watcher ≡ told setup h watcher
  told-lined (layout_of p) h =
      λ i. cond (viewport-lost p h i) (Some tell.Gone) (cond (joined-lined p h i)
      (option_map (layout_in (ratio-told h i)) (props-lined (viewport_owner setup p) p h i)) None)
  told-lined (status_of p) h =
      λ i. cond (viewport-lost p h i) (Some tell.Gone) (cond (joined-lined p h i) (Some (cond (connected-finished p h i) tell.Connected tell.Disconnected))
      None)
  told-lined (child_of p n) h = λ i. cond (view-lost p h i) (Some tell.Gone) (cond (shows-finished p h i) (Some tell.HasPresented) None)

  -- ---- who asks

  made-lined : (h : List Entry) (made : Made) → watcher_of_made setup (lined h) made ≡ watcher_of_made setup h made
  made-lined h (an_image i) = refl
  made-lined h (a_fill x) = refl
  made-lined h (a_viewport p props) = ap (λ (n : ℕ). let w : Option Watcher = Some (child_of p n) in w) (viewport-count setup p h)

  watcher-in : (h : List Entry) (draft : Draft) (get : Watch) → watcher_in setup (lined h) draft get ≡ watcher_in setup h draft get
  watcher-in h draft watch.Layout = refl
  watcher-in h draft watch.Status = refl
  watcher-in h draft (watch.Child c) = λ i. option_and_then (λ made. made-lined h made i) (made_of draft c)

  pub watcher-lined : (h : List Entry) (actor : Actor) (carries : List Call) (get : Watch)
      → watcher_of setup (lined h) actor carries get ≡ watcher_of setup h actor carries get
  watcher-lined h Display carries get = refl
  watcher-lined h (Probe n) carries get = refl
  watcher-lined h (Session s) carries get = λ i. option_and_then (λ draft. watcher-in h draft get i) (result_ok (draft_of setup (calls-lined s h i ++ carries)))

  asked-lined : (watcher : Watcher) (h : List Entry) (e : Entry) (kind : EntryKind)
      → asked_in setup watcher (lined h) (but_line e) kind ≡ asked_in setup watcher h e kind
  asked-lined watcher h e (Get get) = λ i. cond (is_watcher setup watcher (watcher-lined h e.actor e.calls get i)) (Some get) None
  asked-lined watcher h e _ = refl

  open-lined : (owner : Option Actor) (h : List Entry) → is_open setup owner (lined h) ≡ is_open setup owner h
  open-lined None h = refl
  open-lined (Some Display) h = refl
  open-lined (Some (Probe n)) h = refl
  open-lined (Some (Session s)) h = ap not (closed-lined s h)

  pub watching-lined : (watcher : Watcher) (h : List Entry) → watching setup watcher (lined h) ≡ watching setup watcher h
  watching-lined watcher [] = refl
  watching-lined watcher (before ▹ e) =
      λ i. settled (open-lined (listener setup watcher) (before ▹ e) i) (told-lined watcher (before ▹ e) i)
      (asking (asked-lined watcher before e e.kind i) (watching-lined watcher before i))
