-- What a watcher answers to a held get is among the events of its listener.
use Rattle.std.proofs.Common.{◌≡◌, ◌∙◌, ℕ, zero, suc, ◌+◌, ◌≤◌, ◌<◌, Bool, true, false, cond, ◌&&◌, ◌==◌, nat_lt, List, [], ◌∷◌, ◌++◌, length, refl, sym, ap}
use Rattle.std.proofs.Common.{subst, arith, Option, Some, None, add-one, inl, inr}
use Rattle.std.specs.Prelude.{◌⊎◌, flat_map, option_map, option_and_then, slice_get}
use Rattle.std.specs.List.{list_all, Contains}
use Rattle.std.specs.Result.{result_ok}
use Rattle.std.proofs.lemmas.Bool.{not-true}
use Rattle.std.proofs.lemmas.Bool.Decides.{nat_tests}
use Rattle.flat_base.specs.declared.ids.Actor.{Actor}
use Rattle.flat_base.specs.declared.ids.Actor.TheVariants.{Display, Session, Probe}
use Rattle.flat_base.specs.declared.ids.PairNo.{PairNo}
use Rattle.flat_base.specs.declared.ids.SessionNo.{SessionNo}
use Rattle.flat_scene.specs.declared.calls.Watch.{Watch}
use Rattle.flat_scene.specs.declared.calls.Watch.TheVariants as watch
use Rattle.flat_scene.specs.declared.journal.Entry.{Entry}
use Rattle.flat_scene.specs.declared.journal.Event.{Event}
use Rattle.flat_scene.specs.declared.journal.EntryKind.{EntryKind}
use Rattle.flat_scene.specs.declared.journal.EntryKind.TheVariants.{Get}
use Rattle.flat_scene.specs.declared.journal.WatcherValue.{WatcherValue}
use Rattle.flat_scene.specs.declared.setup.PairDecl.{PairDecl}
use Rattle.flat_scene.specs.declared.setup.Setup.{Setup}
use Rattle.flat_scene.specs.Draft.{Draft, Made, an_image, a_fill, a_viewport, made_of, content_of, of_serial}
use Rattle.flat_scene.specs.Effect.{draft_of}
use Rattle.flat_scene.specs.History.{◌▹◌, is_session, is_closed, is_begin, is_finish, calls}
use Rattle.flat_rules.specs.Ends.{pairs_where, views_of, viewports_of, viewport_uses, viewport_owner, view_owner, uses_viewport, is_done}
use Rattle.flat_rules.specs.FirstNews.{AnswersArePosted}
use Rattle.flat_rules.specs.Legal.{Legal, MayEnter}
use Rattle.flat_rules.specs.Local.{pair_watched}
use Rattle.flat_rules.specs.Posts.{up_to, event_of, told_event, at_finish, at_begin, news_for, events_to}
use Rattle.flat_rules.specs.Watch.{Watcher, layout_of, status_of, child_of, watching, told, asked, listener, is_open, watcher_of, watcher_in, watcher_of_made}
use Rattle.flat_watch.specs.Told.{Watching, answer, answered_by, asking, settled}
use Rattle.std.specs.Option.{option_or}
use Rattle.flat_rules.proofs.FirstNewsLemmas.{IsGet, is-get}
use Rattle.flat_rules.proofs.lemmas.Locality.{same-number, session-of}
use Rattle.flat_rules.proofs.MadeUses.{was_used, call_passes, made_passes, draft-passes, no-links, calls-used}
use Rattle.flat_rules.proofs.lemmas.AllOrSome.{all-append}
use Rattle.flat_rules.proofs.lemmas.OwnedTree.{at-serial}
use Rattle.flat_rules.proofs.lemmas.ShownOwned.{ok-is}

-- ---- members of lists

abbrev In : {A : Type 0} → A → List A → Type 0
In x [] = ⊥
In x (y ∷ ys) = (y ≡ x) ⊎ In x ys

module _ {A : Type 0} where
  in-left : (x : A) (xs ys : List A) → In x xs → In x (xs ++ ys)
  in-left x [] ys on = absurd on
  in-left x (y ∷ xs) ys (inl same) = inl same
  in-left x (y ∷ xs) ys (inr on) = inr (in-left x xs ys on)

  in-right : (x : A) (xs ys : List A) → In x ys → In x (xs ++ ys)
  in-right x [] ys on = on
  in-right x (y ∷ xs) ys on = inr (in-right x xs ys on)

  in-contains : (x : A) (xs : List A) → In x xs → Contains xs x
  in-contains x [] on = absurd on
  in-contains x (y ∷ ys) (inl same) = (0, omega arith, same)
  in-contains x (y ∷ ys) (inr on) = let later : Contains ys x = in-contains x ys on in (later.0 + 1, omega (arith, later.1), rw add-one later.2)

in-flat : {A B : Type 0} (f : A → List B) (x : A) (y : B) → In y (f x) → (xs : List A) → In x xs → In y (flat_map f xs)
in-flat {A} {B} f x y here [] on = absurd on
in-flat {A} {B} f x y here (z ∷ xs) (inl same) = in-left y (f z) (flat_map f xs) (subst (λ (w : A). In y (f w)) (sym same) here)
in-flat {A} {B} f x y here (z ∷ xs) (inr on) = in-right y (f z) (flat_map f xs) (in-flat f x y here xs on)

in-up-to : (n m : ℕ) → 1 ≤ n → n ≤ m → In n (up_to m)
in-up-to n zero some few = absurd (omega (arith, some, few))
in-up-to n (suc m) some few = by_last (λ h. in-up-to n m some h) (nat_lt m n) refl
  where
    by_last : (n ≤ m → In n (up_to m)) → (b : Bool) → nat_lt m n ≡ b → In n (up_to m ++ suc m ∷ [])
    by_last earlier true is = in-right n (up_to m) (suc m ∷ []) (inl (let above : m < n = grind (arith, nat_tests) in omega (arith, above, few)))
    by_last earlier false is = in-left n (up_to m) (suc m ∷ []) (earlier (grind (arith, nat_tests)))

abbrev pair_no : ℕ → PairNo
pair_no n = record { 0 = n }

-- a pair that passes a test is among those that do
in-where : (test : PairDecl → Bool) (number : ℕ) (pairs : List PairDecl) (i j : ℕ) (pair : PairDecl) → j ≡ number + i → slice_get pairs i ≡ Some pair
    → test pair ≡ true
    → In (pair_no j) (pairs_where test number pairs)
in-where test number [] i j pair at found passes = cc
in-where test number (one ∷ pairs) zero j pair at found passes =
    let same : one ≡ pair = cc in
    let here : test one ≡ true = ap test same ∙ passes in
    let place : number ≡ j = omega (arith, at) in
    rw here (inl (ap pair_no place))
in-where test number (one ∷ pairs) (suc i) j pair at found passes =
    by_test (in-where test (number + 1) pairs i j pair (omega (arith, at)) found passes) (test one)
  where
    by_test : In (pair_no j) (pairs_where test (number + 1) pairs) → (b : Bool)
        → In (pair_no j) (cond b (pair_no number ∷ pairs_where test (number + 1) pairs) (pairs_where test (number + 1) pairs))
    by_test later true = inr later
    by_test later false = later

module _ (setup : Setup) where
  -- ---- whose watcher it is

  view-pair : (p : PairNo) (s : SessionNo) → view_owner setup p ≡ Some s → In p (views_of setup s)
  view-pair p s is = by_pair (slice_get setup.pairs p.0) refl is
    where
      by_pair : (o : Option PairDecl) → slice_get setup.pairs p.0 ≡ o → option_map (λ (pair : PairDecl). pair.view) o ≡ Some s → In p (views_of setup s)
      by_pair None at h = cc
      by_pair (Some pair) at h =
          let same : pair.view ≡ s = cc in
          in-where (λ pair. pair.view.0 == s.0) 0 setup.pairs p.0 p.0 pair (omega arith) at (ap (λ (t : SessionNo). t.0 == s.0) same ∙ same-number s.0)

  viewport-pair : (p : PairNo) (s : SessionNo) → viewport_owner setup p ≡ Some (Session s) → In p (viewports_of setup s)
  viewport-pair p s is = by_pair (slice_get setup.pairs p.0) refl is
    where
      by_pair : (o : Option PairDecl) → slice_get setup.pairs p.0 ≡ o → option_map (λ (pair : PairDecl). pair.viewport) o ≡ Some (Session s)
          → In p (viewports_of setup s)
      by_pair None at h = cc
      by_pair (Some pair) at h =
          let same : pair.viewport ≡ Session s = cc in
          in-where (λ pair. is_session s pair.viewport) 0 setup.pairs p.0 p.0 pair (omega arith) at (ap (is_session s) same ∙ same-number s.0)

  -- ---- a watcher of a child that holds a get is one of the uses of its pair

  abbrev IsUse : PairNo → ℕ → List Entry → Type 0
  IsUse p n history = (1 ≤ n) × (n ≤ length (viewport_uses p history))

  used-few : (b : Bool) (e : Entry) (us : List Entry) (n : ℕ) → n ≤ length us → n ≤ length (cond b (e ∷ us) us)
  used-few true e us n few = omega (arith, few)
  used-few false e us n few = few

  use-more : (p : PairNo) (n : ℕ) (before : List Entry) (e : Entry) → IsUse p n before → IsUse p n (before ▹ e)
  use-more p n before e is = (is.0, used-few (uses_viewport p e.kind && is_done e.reply) e (viewport_uses p before) n is.1)

  use-of-made : (p : PairNo) (n : ℕ) (before : List Entry) (o : Option Made) → ((m : Made) → o ≡ Some m → made_passes (was_used before) m ≡ true)
      → option_and_then (watcher_of_made setup before) o ≡ Some (child_of p n) → IsUse p n before
  use-of-made p n before None passes is = cc
  use-of-made p n before (Some (an_image i)) passes is = cc
  use-of-made p n before (Some (a_fill x)) passes is = cc
  use-of-made p n before (Some (a_viewport q props)) passes is =
      let same : q ≡ p = cc in
      let count : length (viewport_uses q before) ≡ n = cc in
      let number : length (viewport_uses p before) ≡ n = ap (λ (r : PairNo). length (viewport_uses r before)) (sym same) ∙ count in
      let used : nat_lt 0 (length (viewport_uses q before)) ≡ true = passes (a_viewport q props) refl in
      let some : 0 < n = (let one : nat_lt 0 n ≡ true = ap (nat_lt 0) (sym count) ∙ used in grind (arith, nat_tests)) in
      (omega (arith, some), omega (arith, number))

  use-of-get : (p : PairNo) (n : ℕ) (before : List Entry) (d : Draft) → list_all (made_passes (was_used before)) d.contents ≡ true → (get : Watch)
      → watcher_in setup before d get ≡ Some (child_of p n) → IsUse p n before
  use-of-get p n before d all watch.Layout is = absurd (no_layout d.view is)
    where
      no_layout : (o : Option PairNo) → option_map layout_of o ≡ Some (child_of p n) → ⊥
      no_layout None h = cc
      no_layout (Some q) h = cc
  use-of-get p n before d all watch.Status is = absurd (no_status d.view is)
    where
      no_status : (o : Option PairNo) → option_map status_of o ≡ Some (child_of p n) → ⊥
      no_status None h = cc
      no_status (Some q) h = cc
  use-of-get p n before d all (watch.Child c) is = use-of-made p n before (made_of d c) (λ m found. by_serial m (content_of d c) found) is
    where
      by_serial : (m : Made) (o : Option ℕ) → option_and_then (of_serial d.contents) o ≡ Some m → made_passes (was_used before) m ≡ true
      by_serial m None found = cc
      by_serial m (Some serial) found = at-serial (made_passes (was_used before)) d.contents serial m all found

  use-of-entry : (p : PairNo) (n : ℕ) (before : List Entry) (e : Entry) → Legal setup (before ▹ e) → (get : Watch) → e.kind ≡ Get get → (actor : Actor)
      → e.actor ≡ actor
      → watcher_of setup before actor e.calls get ≡ Some (child_of p n) → IsUse p n before
  use-of-entry p n before e legal get kind Display by is = cc
  use-of-entry p n before e legal get kind (Probe q) by is = cc
  use-of-entry p n before e legal get kind (Session s) by is = by_draft (result_ok (draft_of setup (calls s before ++ e.calls))) refl is
    where
      may : MayEnter setup before (Session s) e.calls (Get get)
      may =
          let M : Actor → Type 0 = λ a. MayEnter setup before a e.calls e.kind in
          let K : EntryKind → Type 0 = λ k. MayEnter setup before (Session s) e.calls k in
          subst K kind (subst M by legal.1.may)

      opened : is_closed s before ≡ false
      opened = not-true (is_closed s before) (grind (arith, may.lasts))

      all_calls : list_all (call_passes (was_used before)) (calls s before ++ e.calls) ≡ true
      all_calls =
          all-append (call_passes (was_used before)) (calls s before) e.calls (calls-used setup s before legal.0 opened)
          (no-links (was_used before) e.calls (not-true _ may.links))

      by_draft : (o : Option Draft) → result_ok (draft_of setup (calls s before ++ e.calls)) ≡ o
          → option_and_then (λ d. watcher_in setup before d get) o ≡ Some (child_of p n) → IsUse p n before
      by_draft None made h = cc
      by_draft (Some d) made h =
          use-of-get p n before d (draft-passes (was_used before) setup (calls s before ++ e.calls) all_calls d
          (ok-is setup (draft_of setup (calls s before ++ e.calls)) d made)) get h

  settled-waits : (listens : Bool) (now : Option WatcherValue) (w : Watching) (get : Watch) → (settled listens now w).waits ≡ Some get → w.waits ≡ Some get
  settled-waits false now w get is = is
  settled-waits true now w get is = by_answer (answer now w) is
    where
      by_answer : (a : Option WatcherValue) → (answered_by a w).waits ≡ Some get → w.waits ≡ Some get
      by_answer None h = h
      by_answer (Some value) h = absurd (let wrong : None ≡ Some get = h in cc)

  pub held-use : (p : PairNo) (n : ℕ) (history : List Entry) → Legal setup history → (get : Watch) → (watching setup (child_of p n) history).waits ≡ Some get
      → IsUse p n history
  held-use p n [] legal get is = cc
  held-use p n (before ▹ e) legal get is =
      use-more p n before e
      (by_waits (λ held h. held-use p n before legal.0 held h) (watching setup (child_of p n) before).waits refl
      (settled-waits (is_open setup (listener setup (child_of p n)) (before ▹ e)) (told setup (before ▹ e) (child_of p n))
      (asking (asked setup (child_of p n) before e) (watching setup (child_of p n) before)) get is))
    where
      by_waits : ((held : Watch) → (watching setup (child_of p n) before).waits ≡ Some held → IsUse p n before) → (o : Option Watch)
          → (watching setup (child_of p n) before).waits ≡ o
          → option_or o (asked setup (child_of p n) before e) ≡ Some get → IsUse p n before
      by_waits earlier (Some held) waits h = earlier held waits
      by_waits earlier None waits h =
          let asks : IsGet setup (child_of p n) get before e = is-get setup (child_of p n) get before e e.kind refl h in
          use-of-entry p n before e legal get asks.kind e.actor refl asks.meant

  -- ---- the events of an entry

  -- five parts in a row
  in-first : (y : Event) (a b c d e : List Event) → In y a → In y (a ++ b ++ c ++ d ++ e)
  in-first y a b c d e on = in-left y (a ++ b ++ c ++ d) e (in-left y (a ++ b ++ c) d (in-left y (a ++ b) c (in-left y a b on)))

  in-second : (y : Event) (a b c d e : List Event) → In y b → In y (a ++ b ++ c ++ d ++ e)
  in-second y a b c d e on = in-left y (a ++ b ++ c ++ d) e (in-left y (a ++ b ++ c) d (in-left y (a ++ b) c (in-right y a b on)))

  in-third : (y : Event) (a b c d e : List Event) → In y c → In y (a ++ b ++ c ++ d ++ e)
  in-third y a b c d e on = in-left y (a ++ b ++ c ++ d) e (in-left y (a ++ b ++ c) d (in-right y (a ++ b) c on))

  alone : (y : Event) (ys : List Event) → ys ≡ y ∷ [] → In y ys
  alone y ys is = subst (λ (l : List Event). In y l) (sym is) (inl refl)

  -- an event answers a get that is held
  answers-held : (p : PairNo) (o : Option Watch) (value : Option WatcherValue) (y : Event) → event_of p o value ≡ y ∷ [] → (get : Watch) × (o ≡ Some get)
  answers-held p None value y is = absurd (let wrong : [] ≡ y ∷ [] = is in cc)
  answers-held p (Some get) value y is = (get, refl)

  -- the parts of an entry's news
  abbrev layouts : List Entry → Entry → SessionNo → List Event
  layouts before e s = flat_map (λ p. told_event setup p (layout_of p) before e) (views_of setup s)

  abbrev statuses : List Entry → Entry → SessionNo → List Event
  statuses before e s = flat_map (λ p. told_event setup p (status_of p) before e) (views_of setup s)

  abbrev children : List Entry → Entry → SessionNo → List Event
  children before e s = flat_map (λ p. flat_map (λ n. told_event setup p (child_of p n) before e) (up_to (length (viewport_uses p before))))
      (viewports_of setup s)

  abbrev ended : List Entry → Entry → SessionNo → List Event
  ended before e s = cond (is_finish e.kind) (at_finish setup before s) []

  abbrev begun : List Entry → Entry → SessionNo → List Event
  begun before e s = cond (is_begin e.kind) (at_begin setup before e s) []

  news-has : (before : List Entry) (e : Entry) → Legal setup before → (watcher : Watcher) (s : SessionNo) → listener setup watcher ≡ Some (Session s)
      → (y : Event)
      → told_event setup (pair_watched watcher) watcher before e ≡ y ∷ [] → In y (news_for setup before e s)
  news-has before e legal (layout_of p) s hears y is =
      in-first y (layouts before e s) (statuses before e s) (children before e s) (ended before e s) (begun before e s)
      (in-flat (λ q. told_event setup q (layout_of q) before e) p y (alone y _ is) (views_of setup s)
      (view-pair p s (session-of (view_owner setup p) s hears)))
  news-has before e legal (status_of p) s hears y is =
      in-second y (layouts before e s) (statuses before e s) (children before e s) (ended before e s) (begun before e s)
      (in-flat (λ q. told_event setup q (status_of q) before e) p y (alone y _ is) (views_of setup s)
      (view-pair p s (session-of (view_owner setup p) s hears)))
  news-has before e legal (child_of p n) s hears y is =
      let held = answers-held p (watching setup (child_of p n) before).waits
      (answer (told setup (before ▹ e) (child_of p n)) (watching setup (child_of p n) before)) y is in
      let is_use : IsUse p n before = held-use p n before legal held.0 held.1 in
      in-third y (layouts before e s) (statuses before e s) (children before e s) (ended before e s) (begun before e s)
      (in-flat (λ q. flat_map (λ k. told_event setup q (child_of q k) before e) (up_to (length (viewport_uses q before)))) p y
      (in-flat (λ k. told_event setup p (child_of p k) before e) n y (alone y _ is) (up_to (length (viewport_uses p before)))
      (in-up-to n (length (viewport_uses p before)) is_use.0 is_use.1))
      (viewports_of setup s) (viewport-pair p s hears))

pub answers-are-posted : AnswersArePosted
answers-are-posted setup before entry legal watcher s hears opened y is =
    in-contains y (events_to setup before entry s)
    (subst (λ (b : Bool). In y (cond b [] (news_for setup before entry s))) (sym opened) (news-has setup before entry legal watcher s hears y is))
