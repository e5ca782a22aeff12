-- What a get, a viewport's join and the end of a frame do to watchers. Only held gets are answered.
use Rattle.std.proofs.Common.{◌≡◌, ◌∙◌, sym, subst, Bool, true, false, List, [], ◌∷◌, ◌++◌, length, filter, refl, arith, ap, Option, Some, None}
use Rattle.std.specs.Prelude.{cond, is_some, flat_map}
use Rattle.std.proofs.lemmas.Bool.Decides.{nat_tests}
use Rattle.flat_base.specs.declared.ids.PairNo.{PairNo}
use Rattle.flat_base.specs.declared.ids.SessionNo.{SessionNo}
use Rattle.flat_scene.specs.declared.calls.Watch.{Watch}
use Rattle.flat_scene.specs.declared.journal.Entry.{Entry}
use Rattle.flat_scene.specs.declared.journal.Event.TheVariants as event
use Rattle.flat_scene.specs.declared.journal.EntryKind.{EntryKind}
use Rattle.flat_scene.specs.declared.journal.EntryKind.TheVariants.{Get}
use Rattle.flat_scene.specs.declared.journal.WatcherValue.{WatcherValue}
use Rattle.flat_scene.specs.declared.setup.Setup.{Setup}
use Rattle.flat_scene.specs.History.{◌▹◌}
use Rattle.flat_rules.specs.Ends.{views_of, viewport_uses}
use Rattle.flat_rules.specs.Posts.{told_event, event_of, up_to}
use Rattle.flat_rules.specs.Watch.{Watcher, layout_of, status_of, child_of, watching, told, asked, asked_in, is_open, listener, watcher_of, is_watcher}
use Rattle.flat_rules.specs.Watch.{same_watcher}
use Rattle.flat_watch.specs.Told.{Watching, asking, settled, answer, answered_by, news}
use Rattle.std.specs.Option.{option_or}
use Rattle.flat_rules.proofs.lemmas.WatchLocal.{asking-none}
use Rattle.flat_rules.proofs.lemmas.ListLemmas.{not-some}

-- ---- one watcher

-- what a get leaves, where none is held: it is answered at once where there is news, and else held
abbrev pub after_get : Watch → Option WatcherValue → Option WatcherValue → Watching
after_get get (Some value) last = record { last = Some value; waits = None }
after_get get None last = record { last = last; waits = Some get }

get-answered : (get : Watch) (now : Option WatcherValue) (last : Option WatcherValue)
    → settled true now (asking (Some get) (record { last = last; waits = None })) ≡ after_get get (news now last) last
get-answered get now last = by_news (news now last)
  where
    by_news : (o : Option WatcherValue) → answered_by o (record { last = last; waits = Some get }) ≡ after_get get o last
    by_news None = refl
    by_news (Some value) = refl

-- a watcher of which no get is held, and that isn't asked, stays as it is whatever it tells
unheld-settled : (listens : Bool) (now : Option WatcherValue) (w : Watching) → w.waits ≡ None → settled listens now w ≡ w
unheld-settled false now w none = refl
unheld-settled true now w none = rw none refl

same-itself : (w : Watcher) → same_watcher w w ≡ true
same-itself (layout_of p) = grind (arith, nat_tests)
same-itself (status_of p) = grind (arith, nat_tests)
same-itself (child_of p n) = grind (arith, nat_tests)

module _ (setup : Setup) where
  -- nothing is asked but by a get
  pub unasked : (watcher : Watcher) (before : List Entry) (e : Entry)
      → ((get : Watch) → e.kind ≡ Get get → is_watcher setup watcher (watcher_of setup before e.actor e.calls get) ≡ false)
      → asked setup watcher before e ≡ None
  unasked watcher before e others = by_kind e.kind refl
    where
      by_kind : (kind : EntryKind) → e.kind ≡ kind → asked_in setup watcher before e kind ≡ None
      by_kind (Get get) is = rw (others get is) refl
      by_kind _ is = refl

  -- where no get is held and none is asked, it stays
  pub unheld-stays : (watcher : Watcher) (before : List Entry) (e : Entry) → (watching setup watcher before).waits ≡ None → asked setup watcher before e ≡ None
      → watching setup watcher (before ▹ e) ≡ watching setup watcher before
  unheld-stays watcher before e none idle =
      let listens : Bool = is_open setup (listener setup watcher) (before ▹ e) in
      let now : Option WatcherValue = told setup (before ▹ e) watcher in
      ap (λ (get : Option Watch). settled listens now (asking get (watching setup watcher before))) idle
      ∙ ap (λ (w : Watching). settled listens now w) (asking-none (watching setup watcher before))
      ∙ unheld-settled listens now (watching setup watcher before) none

  -- a watcher that isn't asked is settled by what it tells now
  pub settled-now : (watcher : Watcher) (before : List Entry) (e : Entry) → asked setup watcher before e ≡ None
      → watching setup watcher (before ▹ e) ≡ settled (is_open setup (listener setup watcher) (before ▹ e)) (told setup (before ▹ e) watcher)
      (watching setup watcher before)
  settled-now watcher before e idle =
      let listens : Bool = is_open setup (listener setup watcher) (before ▹ e) in
      let now : Option WatcherValue = told setup (before ▹ e) watcher in
      ap (λ (get : Option Watch). settled listens now (asking get (watching setup watcher before))) idle
      ∙ ap (λ (w : Watching). settled listens now w) (asking-none (watching setup watcher before))

  -- ---- a get

  -- the get of this watcher
  asked-itself : (watcher : Watcher) (before : List Entry) (e : Entry) (get : Watch) → e.kind ≡ Get get
      → watcher_of setup before e.actor e.calls get ≡ Some watcher → asked setup watcher before e ≡ Some get
  asked-itself watcher before e get is means =
      let K : EntryKind → Type 0 = λ kind. asked_in setup watcher before e kind ≡ Some get in
      subst K (sym is) (rw (means, same-itself watcher) refl)

  -- where none is held: it is answered at once, or held
  pub got-one : (watcher : Watcher) (before : List Entry) (e : Entry) (get : Watch) → e.kind ≡ Get get
      → watcher_of setup before e.actor e.calls get ≡ Some watcher
      → told setup (before ▹ e) watcher ≡ told setup before watcher → is_open setup (listener setup watcher) (before ▹ e) ≡ true
      → (watching setup watcher before).waits ≡ None
      → watching setup watcher (before ▹ e) ≡ after_get get (news (told setup before watcher) (watching setup watcher before).last)
      (watching setup watcher before).last
  got-one watcher before e get is means same listens none =
      let w : Watching = watching setup watcher before in
      let idle : w ≡ record { last = w.last; waits = None } = ap (λ (o : Option Watch). let v : Watching = record w { waits = o } in v) none in
      let asks : asked setup watcher before e ≡ Some get = asked-itself watcher before e get is means in
      ap (λ (b : Bool). settled b (told setup (before ▹ e) watcher) (asking (asked setup watcher before e) w)) listens
      ∙ ap (λ (now : Option WatcherValue). settled true now (asking (asked setup watcher before e) w)) same
      ∙ ap (λ (a : Option Watch). settled true (told setup before watcher) (asking a w)) asks
      ∙ ap (λ (v : Watching). settled true (told setup before watcher) (asking (Some get) v)) idle
      ∙ get-answered get (told setup before watcher) w.last

  -- where one is held, the session is closed and all stays
  pub got-two : (watcher : Watcher) (before : List Entry) (e : Entry) → is_open setup (listener setup watcher) (before ▹ e) ≡ false
      → is_some (watching setup watcher before).waits ≡ true
      → watching setup watcher (before ▹ e) ≡ watching setup watcher before
  got-two watcher before e shut held =
      ap (λ (b : Bool). settled b (told setup (before ▹ e) watcher) (asking (asked setup watcher before e) (watching setup watcher before))) shut
      ∙ kept (asked setup watcher before e) (watching setup watcher before) held
    where
      kept : (get : Option Watch) (w : Watching) → is_some w.waits ≡ true → asking get w ≡ w
      kept get w some = ap (λ (o : Option Watch). let v : Watching = record w { waits = o } in v) (by_waits w.waits some)
        where
          by_waits : (o : Option Watch) → is_some o ≡ true → option_or o get ≡ o
          by_waits None h = cc
          by_waits (Some x) h = refl

  -- ---- an answer to a held get

  -- a held get with news is answered
  pub held-answered : (p : PairNo) (watcher : Watcher) (before : List Entry) (e : Entry) (get : Watch) (value : WatcherValue)
      → (watching setup watcher before).waits ≡ Some get
      → news (told setup (before ▹ e) watcher) (watching setup watcher before).last ≡ Some value
      → told_event setup p watcher before e ≡ event.Told p get value ∷ []
  held-answered p watcher before e get value waits new = rw (waits, new) refl

  -- and one without stays held
  pub held-silent : (p : PairNo) (watcher : Watcher) (before : List Entry) (e : Entry)
      → news (told setup (before ▹ e) watcher) (watching setup watcher before).last ≡ None → told_event setup p watcher before e ≡ []
  held-silent p watcher before e none = by_waits (watching setup watcher before) none
    where
      by_waits : (w : Watching) → news (told setup (before ▹ e) watcher) w.last ≡ None → event_of p w.waits (answer (told setup (before ▹ e) watcher) w) ≡ []
      by_waits w silent = rw silent (by_two w.waits)
        where
          by_two : (o : Option Watch) → event_of p o (cond (is_some o) None None) ≡ []
          by_two None = refl
          by_two (Some get) = refl

  -- what an answer leaves
  pub answered-after : (watcher : Watcher) (before : List Entry) (e : Entry) (value : WatcherValue) → asked setup watcher before e ≡ None
      → is_open setup (listener setup watcher) (before ▹ e) ≡ true
      → is_some (watching setup watcher before).waits ≡ true → news (told setup (before ▹ e) watcher) (watching setup watcher before).last ≡ Some value
      → watching setup watcher (before ▹ e) ≡ record { last = Some value; waits = None }
  answered-after watcher before e value idle listens held new = settled-now watcher before e idle ∙ rw (listens, held, new) refl

  pub silent-after : (watcher : Watcher) (before : List Entry) (e : Entry) → asked setup watcher before e ≡ None
      → news (told setup (before ▹ e) watcher) (watching setup watcher before).last ≡ None
      → watching setup watcher (before ▹ e) ≡ watching setup watcher before
  silent-after watcher before e idle none = settled-now watcher before e idle
      ∙ by_open (is_open setup (listener setup watcher) (before ▹ e)) (is_some (watching setup watcher before).waits)
    where
      by_open : (b c : Bool) → cond b (answered_by (cond c (news (told setup (before ▹ e) watcher) (watching setup watcher before).last) None)
          (watching setup watcher before)) (watching setup watcher before) ≡ watching setup watcher before
      by_open false c = refl
      by_open true true = rw none refl
      by_open true false = refl

-- ---- lists of watchers

-- those that give nothing may be left out
pub flat-held : {X Y : Type 0} (q : X → Bool) (f : X → List Y) → ((x : X) → q x ≡ false → f x ≡ []) → (xs : List X) → flat_map f xs ≡ flat_map f (filter q xs)
flat-held q f none [] = refl
flat-held q f none (x ∷ xs) = by_test (flat-held q f none xs) (q x) refl
  where
    by_test : flat_map f xs ≡ flat_map f (filter q xs) → (b : Bool) → q x ≡ b → (f x ++ flat_map f xs) ≡ flat_map f (cond b (x ∷ filter q xs) (filter q xs))
    by_test rest true is = ap (λ l. f x ++ l) rest
    by_test rest false is = rw (none x is) rest

-- the held layouts, statuses and children of a session
module _ (setup : Setup) where
  abbrev pub is_held : List Entry → Watcher → Bool
  is_held history watcher = is_some (watching setup watcher history).waits

  unheld-event : (p : PairNo) (watcher : Watcher) (before : List Entry) (e : Entry) → is_held before watcher ≡ false → told_event setup p watcher before e ≡ []
  unheld-event p watcher before e none = rw (not-some (watching setup watcher before).waits none) refl

  pub layouts-held : (s : SessionNo) (before : List Entry) (e : Entry)
      → flat_map (λ p. told_event setup p (layout_of p) before e) (views_of setup s)
      ≡ flat_map (λ p. told_event setup p (layout_of p) before e) (filter (λ p. is_held before (layout_of p)) (views_of setup s))
  layouts-held s before e = flat-held (λ p. is_held before (layout_of p)) (λ p. told_event setup p (layout_of p) before e)
      (λ p none. unheld-event p (layout_of p) before e none) (views_of setup s)

  pub statuses-held : (s : SessionNo) (before : List Entry) (e : Entry)
      → flat_map (λ p. told_event setup p (status_of p) before e) (views_of setup s)
      ≡ flat_map (λ p. told_event setup p (status_of p) before e) (filter (λ p. is_held before (status_of p)) (views_of setup s))
  statuses-held s before e = flat-held (λ p. is_held before (status_of p)) (λ p. told_event setup p (status_of p) before e)
      (λ p none. unheld-event p (status_of p) before e none) (views_of setup s)

  pub children-held : (p : PairNo) (before : List Entry) (e : Entry)
      → flat_map (λ n. told_event setup p (child_of p n) before e) (up_to (length (viewport_uses p before)))
      ≡ flat_map (λ n. told_event setup p (child_of p n) before e) (filter (λ n. is_held before (child_of p n)) (up_to (length (viewport_uses p before))))
  children-held p before e = flat-held (λ n. is_held before (child_of p n)) (λ n. told_event setup p (child_of p n) before e)
      (λ n none. unheld-event p (child_of p n) before e none) (up_to (length (viewport_uses p before)))
