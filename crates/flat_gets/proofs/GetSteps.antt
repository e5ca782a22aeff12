-- The gets of a session after each kind of entry: kept, settled, or one more.
use Rattle.std.proofs.Common.{◌≡◌, ◌∙◌, sym, subst, ℕ, zero, suc, ◌+◌, ◌-◌, Bool, true, false, List, [], ◌∷◌, ◌++◌, length, filter, drop, refl, arith, ap, Some}
use Rattle.std.proofs.Common.{None}
use Rattle.std.specs.Prelude.{cond, Option, flat_map, replicate, ◌==◌, ◌&&◌, nat_lt, nat_le}
use Rattle.std.proofs.lemmas.Bool.Decides.{nat_tests}
use Rattle.std.proofs.lemmas.List.{append-nil}
use Rattle.std.proofs.lemmas.List.Elements.{filter-append}
use Rattle.flat_base.specs.declared.ids.Actor.{Actor}
use Rattle.flat_base.specs.declared.ids.Actor.TheVariants.{Display, Session, Probe}
use Rattle.flat_base.specs.declared.ids.PairNo.{PairNo}
use Rattle.flat_base.specs.declared.ids.SessionNo.{SessionNo}
use Rattle.flat_scene.specs.declared.calls.ViewportProps.{ViewportProps}
use Rattle.flat_scene.specs.declared.calls.Watch.{Watch}
use Rattle.flat_scene.specs.declared.journal.Entry.{Entry}
use Rattle.flat_scene.specs.declared.journal.Event.{Event}
use Rattle.flat_scene.specs.declared.journal.Event.TheVariants as event
use Rattle.flat_scene.specs.declared.journal.EntryKind.{EntryKind}
use Rattle.flat_scene.specs.declared.journal.EntryKind.TheVariants.{View, Viewport, Present, Get, Wait, Close}
use Rattle.flat_scene.specs.declared.journal.Reply.{Reply}
use Rattle.flat_scene.specs.declared.journal.Reply.TheVariants.{Done}
use Rattle.flat_scene.specs.declared.journal.WatcherValue.{WatcherValue}
use Rattle.flat_scene.specs.declared.setup.Setup.{Setup}
use Rattle.flat_scene.specs.Frames.{credits}
use Rattle.flat_base.proofs.lemmas.Tests.{and-left, and-right}
use Rattle.flat_scene.specs.History.{◌▹◌, is_closed, is_finish, is_begin, is_session}
use Rattle.flat_watch.specs.Told.{Watching, answer, settled}
use Rattle.flat_rules.specs.Ends.{is_done, to_begin, uses_view, uses_viewport, view_uses, viewports_of}
use Rattle.flat_gets.specs.Gets.{HeldGet, held_of, helds_of, hears, watchers_of, news_of, answers_to}
use Rattle.flat_rules.specs.Legal.{Legal, answers, asked_of, has_token, is_now, is_told, number_if, refused_token, reply_to, reply_to_present, value_of}
use Rattle.flat_rules.specs.Kinds.{is_get}
use Rattle.flat_rules.specs.Local.{pair_watched}
use Rattle.flat_rules.specs.Posts.{releases_seen, event_of, events_to, at_finish, at_begin, frame_took, tokens_back}
use Rattle.flat_rules.specs.Watch.{Watcher, layout_of, status_of, child_of, watching, told, asked, asked_in, is_open, listener, same_watcher}
use Rattle.flat_facts.proofs.lemmas.Between.{is_viewport, fresh-view}
use Rattle.flat_rules.proofs.lemmas.EventsLocal.{rest-none, flat-none}
use Rattle.flat_rules.proofs.lemmas.AllOrSome.{flat-nested}
use Rattle.flat_gets.proofs.lemmas.GetHistory.{event-after, hears-open, told-part, watchers-heard}
use Rattle.flat_rules.proofs.lemmas.Still.{IsStill, watching-same, child-rests}
use Rattle.flat_facts.proofs.lemmas.Unwatched.{unwatched, is_layout, is_status}
use Rattle.flat_facts.proofs.lemmas.ViewHistory.{used_in}
use Rattle.flat_facts.proofs.lemmas.Tests.{same-pair}
use Rattle.flat_rules.proofs.lemmas.Watchers.{settled-now, unheld-stays}
use Rattle.std.proofs.lemmas.Bool.{and_right}

-- ---- which events tell

told-answer : (p : PairNo) (get : Watch) (o : Option WatcherValue) (rest : List Event) → filter is_told rest ≡ rest
    → filter is_told (event_of p (Some get) o ++ rest) ≡ event_of p (Some get) o ++ rest
told-answer p get None rest is = is
told-answer p get (Some value) rest is = ap (λ (l : List Event). event.Told p get value ∷ l) is

told-answers : (now : Watcher → Option WatcherValue) (held : List HeldGet) → filter is_told (answers_to now held) ≡ answers_to now held
told-answers now [] = refl
told-answers now (one ∷ more) = told-answer (pair_watched one.watcher) one.get (news_of now one) (answers_to now more) (told-answers now more)

untold-cond : (b : Bool) (xs ys : List Event) → filter is_told xs ≡ [] → filter is_told ys ≡ [] → filter is_told (cond b xs ys) ≡ []
untold-cond true xs ys first second = first
untold-cond false xs ys first second = second

untold-both : (xs ys : List Event) → filter is_told xs ≡ [] → filter is_told ys ≡ [] → filter is_told (xs ++ ys) ≡ []
untold-both xs ys first second = rw (filter-append, first, second) refl

untold-tokens : (p : PairNo) (n : ℕ) → filter is_told (replicate n (event.TokenBack p)) ≡ []
untold-tokens p zero = refl
untold-tokens p (suc n) = untold-tokens p n

untold-flat : (f : PairNo → List Event) → ((p : PairNo) → filter is_told (f p) ≡ []) → (ps : List PairNo) → filter is_told (flat_map f ps) ≡ []
untold-flat f each [] = refl
untold-flat f each (p ∷ ps) = untold-both (f p) (flat_map f ps) (each p) (untold-flat f each ps)

module _ (setup : Setup) where
  untold-finish : (h : List Entry) (s : SessionNo) → filter is_told (at_finish setup h s) ≡ []
  untold-finish h s =
      untold-both (cond (nat_lt 0 (frame_took setup h s)) (event.FramePresented (frame_took setup h s) ∷ []) []) (tokens_back setup h s)
      (untold-cond (nat_lt 0 (frame_took setup h s)) (event.FramePresented (frame_took setup h s) ∷ []) [] refl refl)
      (untold-flat (λ p. replicate (came p) (event.TokenBack p)) (λ p. untold-tokens p (came p)) (viewports_of setup s))
    where
      came : PairNo → ℕ
      came p = releases_seen setup (to_begin h) s p - releases_seen setup (drop 1 (to_begin h)) s p

  untold-begin : (h : List Entry) (e : Entry) (s : SessionNo) → filter is_told (at_begin setup h e s) ≡ []
  untold-begin h e s = untold-cond _ (event.Credits (credits setup (h ▹ e) s - credits setup h s) ∷ []) [] refl refl

  told-by : (closed : Bool) (all finish begin : List Event) → closed ≡ false → filter is_told finish ≡ [] → filter is_told begin ≡ []
      → filter is_told (cond closed [] (all ++ finish ++ begin)) ≡ filter is_told all
  told-by true all finish begin opened no_finish no_begin = cc
  told-by false all finish begin opened no_finish no_begin =
      filter-append is_told (all ++ finish) begin ∙ ap (λ (l : List Event). l ++ filter is_told begin) (filter-append is_told all finish)
      ∙ rw (no_finish, no_begin) (append-nil _ ∙ append-nil _)

  -- what an entry tells a session is the answers to its held gets
  pub told-to : (h : List Entry) (e : Entry) (s : SessionNo) → is_closed s (h ▹ e) ≡ false
      → filter is_told (events_to setup h e s) ≡ answers_to (told setup (h ▹ e)) (helds_of setup h s)
  told-to h e s opened =
      told-by (is_closed s (h ▹ e)) _ (cond (is_finish e.kind) (at_finish setup h s) []) (cond (is_begin e.kind) (at_begin setup h e s) []) opened
      (untold-cond (is_finish e.kind) (at_finish setup h s) [] (untold-finish h s) refl)
      (untold-cond (is_begin e.kind) (at_begin setup h e s) [] (untold-begin h e s) refl)
      ∙ ap (filter is_told) (told-part setup s h e) ∙ told-answers (told setup (h ▹ e)) (helds_of setup h s)

  pub answers-more : (h : List Entry) (e : Entry) (s : SessionNo) → is_closed s (h ▹ e) ≡ false
      → answers setup s (h ▹ e) ≡ answers setup s h + number_if (is_session s e.actor && is_now e.reply) + length
      (answers_to (told setup (h ▹ e)) (helds_of setup h s))
  answers-more h e s opened = ap (λ (l : List Event). answers setup s h + number_if (is_session s e.actor && is_now e.reply) + length l) (told-to h e s opened)

  -- ---- an entry at which all its watchers rest

  pub quiet : (w : Watcher) (h : List Entry) (e : Entry) → asked setup w h e ≡ None → is_open setup (listener setup w) (h ▹ e) ≡ true
      → watching setup w (h ▹ e) ≡ watching setup w h → answers_to (told setup (h ▹ e)) (held_of setup h w) ≡ []
  quiet w h e idle listens rests =
      let v : Watching = watching setup w h in
      let settles : settled true (told setup (h ▹ e) w) v ≡ v =
      ap (λ (b : Bool). settled b (told setup (h ▹ e) w) v) (sym listens) ∙ sym (settled-now setup w h e idle) ∙ rests in
      sym (event-after setup w h e) ∙ rest-none (pair_watched w) (answer (told setup (h ▹ e) w) v) v settles

  pub quiet-all : (h : List Entry) (e : Entry) (s : SessionNo) → is_closed s (h ▹ e) ≡ false
      → ((w : Watcher) → hears setup s w ≡ true → (asked setup w h e ≡ None) × (watching setup w (h ▹ e) ≡ watching setup w h))
      → answers_to (told setup (h ▹ e)) (helds_of setup h s) ≡ []
  quiet-all h e s opened rests =
      let now : Watcher → Option WatcherValue = told setup (h ▹ e) in
      flat-nested (λ one. event_of (pair_watched one.watcher) (Some one.get) (news_of now one)) (held_of setup h) (watchers_of setup h s)
      ∙ flat-none (hears setup s) (λ w. answers_to now (held_of setup h w))
      (λ w heard. quiet w h e (rests w heard).0 (hears-open setup s w (h ▹ e) heard opened) (rests w heard).1) (watchers_of setup h s)
      (watchers-heard setup h s)

-- ---- kinds of entry

-- what is no get asks nothing
pub idle-kind : (setup : Setup) (h : List Entry) (e : Entry) → is_get e.kind ≡ false → (w : Watcher) → asked setup w h e ≡ None
idle-kind setup h e no_get w = by_kind e.kind no_get
  where
    by_kind : (kind : EntryKind) → is_get kind ≡ false → asked_in setup w h e kind ≡ None
    by_kind (Get get) is = cc
    by_kind _ is = refl

not-now : (b : Bool) (x y : Reply) → is_now x ≡ false → is_now y ≡ false → is_now (cond b x y) ≡ false
not-now true x y first second = first
not-now false x y first second = second

-- and has no value as its reply
pub untold-kind : (setup : Setup) (h : List Entry) (e : Entry) → Legal setup (h ▹ e) → is_get e.kind ≡ false → is_now e.reply ≡ false
untold-kind setup h e legal no_get = ap is_now legal.1.reply ∙ by_kind e.actor e.kind no_get
  where
    by_present : (who : Actor) → is_now (reply_to_present setup h who) ≡ false
    by_present (Session s) = not-now (nat_lt 0 (credits setup h s)) _ _ refl refl
    by_present Display = refl
    by_present (Probe p) = refl

    by_kind : (who : Actor) (kind : EntryKind) → is_get kind ≡ false → is_now (reply_to setup h who e.calls kind) ≡ false
    by_kind who (View p) is = not-now (length (view_uses p h) == 0) _ _ refl refl
    by_kind who (Viewport p props) is = not-now (has_token setup p h) _ _ refl refl
    by_kind who (Get get) is = cc
    by_kind who (Present args) is = by_present who
    by_kind who (Wait c) is = not-now (nat_le (asked_of c) (value_of setup h who c)) _ _ refl refl
    by_kind who (Close None) is = refl
    by_kind who (Close (Some reason)) is = refl
    by_kind who _ is = refl

module _ (setup : Setup) (h : List Entry) (e : Entry) (legal : Legal setup (h ▹ e)) where
  -- a view that is made wasn't watched
  view-rests : (q : PairNo) → e.kind ≡ View q → (w : Watcher) → asked setup w h e ≡ None → watching setup w (h ▹ e) ≡ watching setup w h
  view-rests q is w idle = by_watcher w idle
    where
      K : PairNo → EntryKind → Type 0
      K p kind = (is_finish kind ≡ false) × (uses_viewport p kind ≡ false) × (uses_view p kind ≡ (q.0 == p.0))

      kind_is : (p : PairNo) → K p e.kind
      kind_is p = subst (K p) (sym is) (refl, refl, refl)

      of_pair : (v : Watcher) → (p : PairNo) → pair_watched v ≡ p → asked setup v h e ≡ None → (used_in h p ≡ false → (watching setup v h).waits ≡ None)
          → watching setup v (h ▹ e) ≡ watching setup v h
      of_pair v p of none unused = by_use (uses_view p e.kind && is_done e.reply) refl
        where
          by_use : (b : Bool) → (uses_view p e.kind && is_done e.reply) ≡ b → watching setup v (h ▹ e) ≡ watching setup v h
          by_use false no_use =
              let at : IsStill p e = record { no_finish = (kind_is p).0; no_view = no_use; no_viewport = rw (kind_is p).1 refl } in
              let S : PairNo → Type 0 = λ r. IsStill r e in
              watching-same setup v h e (subst S (sym of) at) none
          by_use true uses =
              let here : (q.0 == p.0) ≡ true = sym (kind_is p).2 ∙ and-left (uses_view p e.kind) (is_done e.reply) uses in
              let done : is_done e.reply ≡ true = and-right (uses_view p e.kind) (is_done e.reply) uses in
              let pair : q ≡ p = same-pair q p here in
              let R : EntryKind → Type 0 = λ kind. e.reply ≡ reply_to setup h e.actor e.calls kind in
              let replied : e.reply ≡ cond (length (view_uses q h) == 0) Done refused_token = subst R is legal.1.reply in
              let U : PairNo → Type 0 = λ r. used_in h r ≡ false in
              unheld-stays setup v h e (unused (subst U pair (fresh-view (length (view_uses q h)) e.reply (length (view_uses q h) == 0) refl replied done)))
              none

      by_watcher : (v : Watcher) → asked setup v h e ≡ None → watching setup v (h ▹ e) ≡ watching setup v h
      by_watcher (layout_of p) none = of_pair (layout_of p) p refl none
          (λ unused. ap (λ (x : Watching). x.waits) (unwatched setup p h (layout_of p) is_layout legal.0 unused))
      by_watcher (status_of p) none = of_pair (status_of p) p refl none
          (λ unused. ap (λ (x : Watching). x.waits) (unwatched setup p h (status_of p) is_status legal.0 unused))
      by_watcher (child_of p n) none = child-rests setup p n h e (kind_is p).0 none

  -- a watcher rests that isn't asked, where no frame ends and no viewport end is used
  pub rests-between : is_finish e.kind ≡ false → is_viewport e.kind ≡ false → (w : Watcher) → asked setup w h e ≡ None
      → watching setup w (h ▹ e) ≡ watching setup w h
  rests-between no_finish no_viewport w idle = by_kind e.kind refl no_finish no_viewport
    where
      by_kind : (kind : EntryKind) → e.kind ≡ kind → is_finish kind ≡ false → is_viewport kind ≡ false → watching setup w (h ▹ e) ≡ watching setup w h
      by_kind (View q) is f v = view-rests q is w idle
      by_kind (Viewport q props) is f v = cc
      by_kind kind is f v = watching-same setup w h e (record { no_finish = no_finish; no_view = rw is refl; no_viewport = rw is refl }) idle

  -- ---- a viewport's entry

  abbrev IsJoin : PairNo → EntryKind → Type 0
  IsJoin q kind = (is_finish kind ≡ false) × (is_get kind ≡ false) × ((p : PairNo) → (uses_view p kind ≡ false) × (uses_viewport p kind ≡ (q.0 == p.0)))

  join-kind : (q : PairNo) (props : ViewportProps) → e.kind ≡ Viewport q props → IsJoin q e.kind
  join-kind q props is = subst (IsJoin q) (sym is) (refl, refl, λ p. (refl, refl))

  -- a watcher rests that isn't of the pair's view
  pub rests-joined : (q : PairNo) (props : ViewportProps) → e.kind ≡ Viewport q props → (w : Watcher)
      → (same_watcher w (layout_of q) ≡ false) × (same_watcher w (status_of q) ≡ false) → watching setup w (h ▹ e) ≡ watching setup w h
  rests-joined q props is w other =
      let k : IsJoin q e.kind = join-kind q props is in
      by_watcher w other (idle-kind setup h e k.1 w)
    where
      still : (p : PairNo) → (p.0 == q.0) ≡ false → IsStill p e
      still p differ =
          let k : IsJoin q e.kind = join-kind q props is in
          let none : (q.0 == p.0) ≡ false = grind (arith, nat_tests) in
          record { no_finish = k.0; no_view = rw (k.2 p).0 refl; no_viewport = rw ((k.2 p).1, none) refl }

      by_watcher : (v : Watcher) → (same_watcher v (layout_of q) ≡ false) × (same_watcher v (status_of q) ≡ false) → asked setup v h e ≡ None
          → watching setup v (h ▹ e) ≡ watching setup v h
      by_watcher (layout_of p) other' idle = watching-same setup (layout_of p) h e (still p other'.0) idle
      by_watcher (status_of p) other' idle = watching-same setup (status_of p) h e (still p other'.1) idle
      by_watcher (child_of p n) other' idle = child-rests setup p n h e (join-kind q props is).0 idle

  -- and all stay where the use is refused
  pub rests-refused : (q : PairNo) (props : ViewportProps) → e.kind ≡ Viewport q props → is_done e.reply ≡ false → (w : Watcher)
      → watching setup w (h ▹ e) ≡ watching setup w h
  rests-refused q props is refused w =
      let k : IsJoin q e.kind = join-kind q props is in
      watching-same setup w h e (record {
        no_finish = k.0;
        no_view = rw (k.2 (pair_watched w)).0 refl;
        no_viewport = and_right (uses_viewport (pair_watched w) e.kind) (is_done e.reply) refused;
      }) (idle-kind setup h e k.1 w)
