-- What is told changes at the end of a frame and at a use of the pair's ends alone; else watchers are at rest, and post nothing.
use Rattle.std.proofs.Common.{◌≡◌, ◌∙◌, ℕ, Bool, true, false, List, [], ◌∷◌, ◌++◌, length, refl, ap, Option, Some, None}
use Rattle.std.specs.Prelude.{cond, ◌&&◌, flat_map, option_map}
use Rattle.flat_base.specs.declared.ids.Actor.{Actor}
use Rattle.flat_base.specs.declared.ids.Actor.TheVariants.{Display, Session, Probe}
use Rattle.flat_base.specs.declared.ids.PairNo.{PairNo}
use Rattle.flat_base.specs.declared.ids.SessionNo.{SessionNo}
use Rattle.flat_scene.specs.declared.calls.Watch.{Watch}
use Rattle.flat_scene.specs.declared.journal.Entry.{Entry}
use Rattle.flat_scene.specs.declared.journal.Event.{Event}
use Rattle.flat_scene.specs.declared.journal.WatcherValue.{WatcherValue}
use Rattle.flat_scene.specs.declared.setup.Setup.{Setup}
use Rattle.flat_scene.specs.History.{◌▹◌, own, is_session, is_finish, is_begin, is_closed}
use Rattle.flat_rules.specs.Ends.{viewport_uses, uses_view, uses_viewport, is_done, viewport_owner, view_owner, views_of, viewports_of}
use Rattle.flat_rules.specs.Legal.{owns_view, owns_viewport}
use Rattle.flat_rules.specs.Local.{pair_watched}
use Rattle.flat_rules.specs.Posts.{told_event, event_of, news_for, at_begin, up_to}
use Rattle.flat_rules.specs.Watch.{Watcher, layout_of, status_of, child_of, watching, told, props_told, asked, props_seen, props_given, is_open, is_used}
use Rattle.flat_rules.specs.Watch.{listener}
use Rattle.flat_watch.specs.Told.{Watching, asking, settled, answer}
use Rattle.std.specs.Option.{option_or}
use Rattle.flat_rules.proofs.lemmas.EventsLocal.{rest-none, hears-view, hears-viewport, flat-none, views-owned, viewports-owned}
use Rattle.flat_rules.proofs.lemmas.ShownSteps.{closed-before}
use Rattle.flat_rules.proofs.lemmas.WatchLocal.{asking-none, at-rest}
use Rattle.std.proofs.lemmas.Bool.{not-true}

-- An entry that ends no frame and uses no end of this pair.
pub record IsStill (p : PairNo) (entry : Entry) : Type 0 where
  pub no_finish : is_finish entry.kind ≡ false
  pub no_view : (uses_view p entry.kind && is_done entry.reply) ≡ false
  pub no_viewport : (uses_viewport p entry.kind && is_done entry.reply) ≡ false

-- an actor that is open was open before
pub open-before : (setup : Setup) (actor : Option Actor) (before : List Entry) (e : Entry) → is_open setup actor (before ▹ e) ≡ true
    → is_open setup actor before ≡ true
open-before setup None before e is = is
open-before setup (Some Display) before e is = is
open-before setup (Some (Probe n)) before e is = is
open-before setup (Some (Session s)) before e is = rw (closed-before (is_session s e.actor) e (own s before) (not-true (is_closed s (before ▹ e)) is)) refl

module _ (setup : Setup) where
  -- ---- what is told

  props-same : (owner : Option Actor) (p : PairNo) (before : List Entry) (e : Entry) → IsStill p e
      → props_told setup owner (before ▹ e) p ≡ props_told setup owner before p
  props-same None p before e still = refl
  props-same (Some Display) p before e still = rw still.no_finish refl
  props-same (Some (Probe n)) p before e still = refl
  props-same (Some (Session s)) p before e still =
      let uses : viewport_uses p (before ▹ e) ≡ viewport_uses p before = rw still.no_viewport refl in
      ap (λ (us : List Entry). option_or (props_seen setup p (length us) s (before ▹ e)) (props_given setup us)) uses ∙ rw still.no_finish refl

  used-same : (owner : Option Actor) (p : PairNo) (before : List Entry) (e : Entry) → IsStill p e
      → is_used setup owner p (before ▹ e) ≡ is_used setup owner p before
  used-same None p before e still = rw still.no_viewport refl
  used-same (Some Display) p before e still = refl
  used-same (Some (Probe n)) p before e still = rw still.no_viewport refl
  used-same (Some (Session s)) p before e still = rw still.no_viewport refl

  pub told-same : (watcher : Watcher) (before : List Entry) (e : Entry) → IsStill (pair_watched watcher) e
      → told setup (before ▹ e) watcher ≡ told setup before watcher
  told-same (layout_of p) before e still = rw (
    still.no_finish,
    still.no_view,
    used-same (viewport_owner setup p) p before e still,
    props-same (viewport_owner setup p) p before e still,
  ) refl
  told-same (status_of p) before e still = rw (still.no_finish, still.no_view, used-same (viewport_owner setup p) p before e still) refl
  told-same (child_of p n) before e still = rw still.no_finish refl

  -- what a child watcher tells changes with frames alone
  pub child-same : (p : PairNo) (n : ℕ) (before : List Entry) (e : Entry) → is_finish e.kind ≡ false
      → told setup (before ▹ e) (child_of p n) ≡ told setup before (child_of p n)
  child-same p n before e no_finish = rw no_finish refl

  -- ---- watchers

  -- a watcher that isn't asked and hears nothing new stays as it is
  pub rests : (watcher : Watcher) (before : List Entry) (e : Entry) → told setup (before ▹ e) watcher ≡ told setup before watcher
      → asked setup watcher before e ≡ None
      → watching setup watcher (before ▹ e) ≡ watching setup watcher before
  rests watcher before e same unasked =
      let w : Watching = watching setup watcher before in
      let listens : Bool = is_open setup (listener setup watcher) (before ▹ e) in
      ap (λ (now : Option WatcherValue). settled listens now (asking (asked setup watcher before e) w)) same
      ∙ ap (λ (get : Option Watch). settled listens (told setup before watcher) (asking get w)) unasked
      ∙ ap (λ (v : Watching). settled listens (told setup before watcher) v) (asking-none w)
      ∙ by_open listens refl
    where
      by_open : (b : Bool) → is_open setup (listener setup watcher) (before ▹ e) ≡ b
          → settled b (told setup before watcher) (watching setup watcher before) ≡ watching setup watcher before
      by_open false is = refl
      by_open true is =
          let open_then : is_open setup (listener setup watcher) before ≡ true = open-before setup (listener setup watcher) before e is in
          rw open_then at (at-rest setup watcher before)

  pub watching-same : (watcher : Watcher) (before : List Entry) (e : Entry) → IsStill (pair_watched watcher) e → asked setup watcher before e ≡ None
      → watching setup watcher (before ▹ e) ≡ watching setup watcher before
  watching-same watcher before e still unasked = rests watcher before e (told-same watcher before e still) unasked

  pub child-rests : (p : PairNo) (n : ℕ) (before : List Entry) (e : Entry) → is_finish e.kind ≡ false → asked setup (child_of p n) before e ≡ None
      → watching setup (child_of p n) (before ▹ e) ≡ watching setup (child_of p n) before
  child-rests p n before e no_finish unasked = rests (child_of p n) before e (child-same p n before e no_finish) unasked

  -- ---- events

  -- a watcher whose session listened before, and that hears nothing new, posts nothing
  pub told-nothing : (p : PairNo) (watcher : Watcher) (before : List Entry) (e : Entry) → told setup (before ▹ e) watcher ≡ told setup before watcher
      → is_open setup (listener setup watcher) before ≡ true
      → told_event setup p watcher before e ≡ []
  told-nothing p watcher before e same listens =
      let resting : settled true (told setup before watcher) (watching setup watcher before) ≡ watching setup watcher before =
      rw listens at (at-rest setup watcher before) in
      ap (λ (now : Option WatcherValue). event_of p (watching setup watcher before).waits (answer now (watching setup watcher before))) same
      ∙ rest-none p (answer (told setup before watcher) (watching setup watcher before)) (watching setup watcher before) resting

  -- a watcher of which no get is held posts nothing
  pub told-unheld : (p : PairNo) (watcher : Watcher) (before : List Entry) (e : Entry) → (watching setup watcher before).waits ≡ None
      → told_event setup p watcher before e ≡ []
  told-unheld p watcher before e none = rw none refl

  -- An entry at which the layouts and statuses of a session's views say nothing new to a held get.
  abbrev pub IsSilent : SessionNo → List Entry → Entry → Type 0
  IsSilent s before e = (p : PairNo) → owns_view setup s p ≡ true
      → (told_event setup p (layout_of p) before e ≡ []) × (told_event setup p (status_of p) before e ≡ [])

  children-silent : (s : SessionNo) (before : List Entry) (e : Entry) → is_finish e.kind ≡ false → is_closed s before ≡ false → (p : PairNo)
      → owns_viewport setup s p ≡ true
      → flat_map (λ n. told_event setup p (child_of p n) before e) (up_to (length (viewport_uses p before))) ≡ []
  children-silent s before e no_finish opened p owned =
      nothing (λ n. told_event setup p (child_of p n) before e)
      (λ n. told-nothing p (child_of p n) before e (child-same p n before e no_finish) (hears-viewport setup (viewport_owner setup p) s before owned opened))
      (up_to (length (viewport_uses p before)))
    where
      nothing : (f : ℕ → List Event) → ((n : ℕ) → f n ≡ []) → (xs : List ℕ) → flat_map f xs ≡ []
      nothing f none [] = refl
      nothing f none (x ∷ xs) = rw (none x, nothing f none xs) refl

  -- the news of an entry that ends no frame: what it tells of layouts and statuses, and credits
  pub news-between : (s : SessionNo) (before : List Entry) (e : Entry) → is_finish e.kind ≡ false → is_closed s before ≡ false
      → news_for setup before e s
      ≡ (flat_map (λ p. told_event setup p (layout_of p) before e) (views_of setup s)
      ++ flat_map (λ p. told_event setup p (status_of p) before e) (views_of setup s)
      ++ [] ++ [] ++ cond (is_begin e.kind) (at_begin setup before e s) [])
  news-between s before e no_finish opened =
      rw (
        flat-none (owns_viewport setup s) (λ p. flat_map (λ n. told_event setup p (child_of p n) before e) (up_to (length (viewport_uses p before))))
            (children-silent s before e no_finish opened) (viewports_of setup s) (viewports-owned setup s),
        no_finish,
      ) refl

  -- where the views are silent, only credits are left
  pub news-silent : (s : SessionNo) (before : List Entry) (e : Entry) → is_finish e.kind ≡ false → is_closed s before ≡ false → IsSilent s before e
      → news_for setup before e s ≡ cond (is_begin e.kind) (at_begin setup before e s) []
  news-silent s before e no_finish opened silent =
      news-between s before e no_finish opened
      ∙ rw (
        flat-none (owns_view setup s) (λ p. told_event setup p (layout_of p) before e) (λ p owned. (silent p owned).0) (views_of setup s) (views-owned setup s),
        flat-none (owns_view setup s) (λ p. told_event setup p (status_of p) before e) (λ p owned. (silent p owned).1) (views_of setup s) (views-owned setup s),
      ) refl

  -- views are silent at an entry that uses none of their ends
  pub still-silent : (s : SessionNo) (before : List Entry) (e : Entry) → is_closed s before ≡ false → ((p : PairNo) → owns_view setup s p ≡ true → IsStill p e)
      → IsSilent s before e
  still-silent s before e opened still p owned =
      let listens : is_open setup (option_map Session (view_owner setup p)) before ≡ true = hears-view setup (view_owner setup p) s before owned opened in (
        told-nothing p (layout_of p) before e (told-same (layout_of p) before e (still p owned)) listens,
        told-nothing p (status_of p) before e (told-same (status_of p) before e (still p owned)) listens,
      )
