-- A session has no more events that it hasn't read than there are entries: each get answers once, each viewport's token comes back once, and the begin and the
-- end of a frame tell one thing more.
use Rattle.std.proofs.Common.{◌≡◌, ◌∙◌, ℕ, suc, ◌+◌, ◌-◌, ◌<◌, ◌≤◌, Bool, true, false, List, [], ◌∷◌, ◌++◌, drop, length, length-append, filter, replicate}
use Rattle.std.proofs.Common.{refl, arith, ap, Some, None}
use Rattle.std.specs.Prelude.{Option, cond, not, nat_lt, ◌&&◌, ◌==◌, flat_map}
use Rattle.std.specs.List.{list_all}
use Rattle.std.proofs.lemmas.List.{length-replicate}
use Rattle.std.proofs.lemmas.Bool.Decides.{nat_tests}
use Rattle.flat_base.specs.declared.ids.PairNo.{PairNo}
use Rattle.flat_base.specs.declared.ids.SessionNo.{SessionNo}
use Rattle.flat_scene.specs.declared.calls.Watch.{Watch}
use Rattle.flat_scene.specs.declared.journal.Entry.{Entry}
use Rattle.flat_scene.specs.declared.journal.Event.{Event}
use Rattle.flat_scene.specs.declared.journal.Event.TheVariants as event
use Rattle.flat_scene.specs.declared.journal.EntryKind.{EntryKind}
use Rattle.flat_scene.specs.declared.journal.EntryKind.TheVariants.{Begin, Close, Dpr, End, Finish, Get, Hit, Poll, Present, Signal, View, Viewport, Wait}
use Rattle.flat_scene.specs.declared.journal.WatcherValue.{WatcherValue}
use Rattle.flat_scene.specs.declared.setup.PairDecl.{PairDecl}
use Rattle.flat_scene.specs.declared.setup.Setup.{Setup}
use Rattle.flat_scene.specs.History.{◌▹◌, is_begin, is_closed, is_finish, is_session}
use Rattle.flat_scene.specs.Frames.{credits, taken}
use Rattle.flat_base.proofs.lemmas.Tests.{and-left, and-right}
use Rattle.flat_rules.specs.Ends.{is_done, pairs_where, to_begin, to_finished, uses_viewport, viewport_uses, viewports_of, views_of}
use Rattle.flat_rules.specs.Legal.{Legal, answers, is_now, is_poll, is_told, number_if, owns_viewport, is_frame_open, keeps_time, unread, unread_events}
use Rattle.flat_rules.specs.Kinds.{is_get}
use Rattle.flat_rules.specs.Posts.{at_begin, at_finish, event_of, events_to, frame_took, news_for, releases_seen, told_event, tokens_back, up_to}
use Rattle.flat_rules.specs.Watch.{child_of, layout_of, status_of}
use Rattle.flat_rules.proofs.lemmas.EventsLocal.{viewports-owned}
use Rattle.flat_states.proofs.lemmas.Counts.{few-if}
use Rattle.flat_facts.proofs.lemmas.Earlier.{begin-earlier, begun-earlier, finished-earlier, taken-begun, taken-drop}
use Rattle.flat_facts.proofs.lemmas.TokenLaw.{few-released, seen-rises}
use Rattle.flat_gets.specs.Gets.{gets_made}

-- ---- events that answer no get

abbrev others : List Event → ℕ
others [] = 0
others (x ∷ xs) = number_if (not (is_told x)) + others xs

split : (xs : List Event) → length xs ≡ length (filter is_told xs) + others xs
split [] = refl
split (x ∷ xs) = by_told (split xs) (is_told x)
  where
    by_told : length xs ≡ length (filter is_told xs) + others xs → (b : Bool)
        → suc (length xs) ≡ length (cond b (x ∷ filter is_told xs) (filter is_told xs)) + (number_if (not b) + others xs)
    by_told rest true = omega (arith, rest)
    by_told rest false = omega (arith, rest)

others-append : (xs ys : List Event) → others (xs ++ ys) ≡ others xs + others ys
others-append [] ys = omega arith
others-append (x ∷ xs) ys = omega (arith, others-append xs ys)

others-few : (xs : List Event) → others xs ≤ length xs
others-few [] = omega arith
others-few (x ∷ xs) = omega (arith, others-few xs, few-if (not (is_told x)))

others-flat : {A : Type 0} (f : A → List Event) → ((x : A) → others (f x) ≡ 0) → (xs : List A) → others (flat_map f xs) ≡ 0
others-flat f none [] = refl
others-flat f none (x ∷ xs) = others-append (f x) (flat_map f xs) ∙ omega (arith, none x, others-flat f none xs)

others-told : (p : PairNo) (a : Option Watch) (b : Option WatcherValue) → others (event_of p a b) ≡ 0
others-told p (Some get) (Some value) = refl
others-told p (Some get) None = refl
others-told p None b = refl

-- ---- sums over pairs

abbrev total : (PairNo → ℕ) → List PairNo → ℕ
total f [] = 0
total f (p ∷ ps) = f p + total f ps

total-none : (ps : List PairNo) → total (λ p. 0) ps ≡ 0
total-none [] = refl
total-none (p ∷ ps) = omega (arith, total-none ps)

total-sum : (f g h : PairNo → ℕ) → ((p : PairNo) → h p ≤ f p + g p) → (ps : List PairNo) → total h ps ≤ total f ps + total g ps
total-sum f g h less [] = omega arith
total-sum f g h less (p ∷ ps) = omega (arith, less p, total-sum f g h less ps)

total-less : (o : PairNo → Bool) (f g : PairNo → ℕ) → ((p : PairNo) → o p ≡ true → f p ≤ g p) → (ps : List PairNo) → list_all o ps ≡ true
    → total f ps ≤ total g ps
total-less o f g less [] all = omega arith
total-less o f g less (p ∷ ps) all = omega (arith, less p (and-left (o p) (list_all o ps) all), total-less o f g less ps (and-right (o p) (list_all o ps) all))

-- a pair with a lower number isn't among them, and one is there once at most
none-there : (test : PairDecl → Bool) (q n : ℕ) (pairs : List PairDecl) → q < n → total (λ p. number_if (q == p.0)) (pairs_where test n pairs) ≡ 0
none-there test q n [] less = refl
none-there test q n (pair ∷ pairs) less = by_test (none-there test q (n + 1) pairs (omega (arith, less))) (test pair)
  where
    other : (q == n) ≡ false
    other = grind (arith, nat_tests)

    by_test : total (λ p. number_if (q == p.0)) (pairs_where test (n + 1) pairs) ≡ 0 → (b : Bool)
        → total (λ p. number_if (q == p.0)) (cond b ((record { 0 = n }) ∷ pairs_where test (n + 1) pairs) (pairs_where test (n + 1) pairs)) ≡ 0
    by_test rest true = omega (arith, rest, ap number_if other)
    by_test rest false = rest

once-there : (test : PairDecl → Bool) (q n : ℕ) (pairs : List PairDecl) → total (λ p. number_if (q == p.0)) (pairs_where test n pairs) ≤ 1
once-there test q n [] = omega arith
once-there test q n (pair ∷ pairs) = by_test (once-there test q (n + 1) pairs) (test pair)
  where
    by_same : total (λ p. number_if (q == p.0)) (pairs_where test (n + 1) pairs) ≤ 1 → (b : Bool) → (q == n) ≡ b
        → number_if b + total (λ p. number_if (q == p.0)) (pairs_where test (n + 1) pairs) ≤ 1
    by_same rest true same =
        let is : q < n + 1 = grind (arith, nat_tests) in
        omega (arith, none-there test q (n + 1) pairs is)
    by_same rest false other = omega (arith, rest)

    by_test : total (λ p. number_if (q == p.0)) (pairs_where test (n + 1) pairs) ≤ 1 → (b : Bool)
        → total (λ p. number_if (q == p.0)) (cond b ((record { 0 = n }) ∷ pairs_where test (n + 1) pairs) (pairs_where test (n + 1) pairs)) ≤ 1
    by_test rest true = by_same rest (q == n) refl
    by_test rest false = rest

-- an entry is a get, a use, a begin or an end, or none of them
one-kind : (test : PairDecl → Bool) (pairs : List PairDecl) (k : EntryKind)
    → total (λ p. number_if (uses_viewport p k)) (pairs_where test 0 pairs) + number_if (is_get k) + number_if (is_finish k) + number_if (is_begin k) ≤ 1
one-kind test pairs (View p) = omega (arith, total-none (pairs_where test 0 pairs))
one-kind test pairs (Viewport q props) = omega (arith, once-there test q.0 0 pairs)
one-kind test pairs (Present args) = omega (arith, total-none (pairs_where test 0 pairs))
one-kind test pairs (Get get) = omega (arith, total-none (pairs_where test 0 pairs))
one-kind test pairs (Signal f) = omega (arith, total-none (pairs_where test 0 pairs))
one-kind test pairs Poll = omega (arith, total-none (pairs_where test 0 pairs))
one-kind test pairs (Wait c) = omega (arith, total-none (pairs_where test 0 pairs))
one-kind test pairs (Close why) = omega (arith, total-none (pairs_where test 0 pairs))
one-kind test pairs (End n) = omega (arith, total-none (pairs_where test 0 pairs))
one-kind test pairs (Begin time) = omega (arith, total-none (pairs_where test 0 pairs))
one-kind test pairs Finish = omega (arith, total-none (pairs_where test 0 pairs))
one-kind test pairs (Hit x y) = omega (arith, total-none (pairs_where test 0 pairs))
one-kind test pairs (Dpr ratio) = omega (arith, total-none (pairs_where test 0 pairs))

abbrev frame_entries : List Entry → ℕ
frame_entries [] = 0
frame_entries (h ▹ e) = frame_entries h + number_if (is_finish e.kind) + number_if (is_begin e.kind)

use-more : (p : PairNo) (h : List Entry) (e : Entry) → length (viewport_uses p (h ▹ e)) ≤ length (viewport_uses p h) + number_if (uses_viewport p e.kind)
use-more p h e = by_tests (uses_viewport p e.kind) (is_done e.reply)
  where
    by_tests : (a b : Bool) → length (cond (a && b) (e ∷ viewport_uses p h) (viewport_uses p h)) ≤ length (viewport_uses p h) + number_if a
    by_tests true true = omega arith
    by_tests true false = omega arith
    by_tests false b = omega arith

all-few : (test : PairDecl → Bool) (pairs : List PairDecl) (h : List Entry)
    → total (λ p. length (viewport_uses p h)) (pairs_where test 0 pairs) + gets_made h + frame_entries h ≤ length h
all-few test pairs [] = omega (arith, total-none (pairs_where test 0 pairs))
all-few test pairs (h ▹ e) =
    omega (
      arith,
      all-few test pairs h,
      one-kind test pairs e.kind,
      total-sum (λ p. length (viewport_uses p h)) (λ p. number_if (uses_viewport p e.kind)) (λ p. length (viewport_uses p (h ▹ e))) (λ p. use-more p h e)
          (pairs_where test 0 pairs),
    )

module _ (setup : Setup) (s : SessionNo) where
  -- ---- what an entry tells

  abbrev came : List Entry → Entry → ℕ
  came h e = length (cond (is_finish e.kind) (tokens_back setup h s) [])

  at-end : (h : List Entry) (b : Bool) → others (cond b (at_finish setup h s) []) ≤ number_if b + length (cond b (tokens_back setup h s) [])
  at-end h false = omega arith
  at-end h true = by_took (nat_lt 0 (frame_took setup h s))
    where
      by_took : (c : Bool) → others (cond c (event.FramePresented (frame_took setup h s) ∷ []) [] ++ tokens_back setup h s) ≤ 1 + length (tokens_back setup h s)
      by_took true = omega (arith, others-few (tokens_back setup h s))
      by_took false = omega (arith, others-few (tokens_back setup h s))

  at-start : (h : List Entry) (e : Entry) (b : Bool) → others (cond b (at_begin setup h e s) []) ≤ number_if b
  at-start h e false = omega arith
  at-start h e true = by_took (nat_lt (taken setup h s) (taken setup (h ▹ e) s)) (event.Credits (credits setup (h ▹ e) s - credits setup h s))
    where
      by_took : (c : Bool) (x : Event) → others (cond c (x ∷ []) []) ≤ 1
      by_took true x = others-few (x ∷ [])
      by_took false x = omega arith

  others-news : (h : List Entry) (e : Entry) → others (news_for setup h e s) ≤ number_if (is_finish e.kind) + number_if (is_begin e.kind) + came h e
  others-news h e =
      let a : List Event = flat_map (λ p. told_event setup p (layout_of p) h e) (views_of setup s) in
      let b : List Event = flat_map (λ p. told_event setup p (status_of p) h e) (views_of setup s) in
      let c : List Event = flat_map (λ p. flat_map (λ n. told_event setup p (child_of p n) h e) (up_to (length (viewport_uses p h)))) (viewports_of setup s) in
      let d : List Event = cond (is_finish e.kind) (at_finish setup h s) [] in
      let f : List Event = cond (is_begin e.kind) (at_begin setup h e s) [] in
      five a b c d f
      (others-flat (λ p. told_event setup p (layout_of p) h e) (λ p. others-told p _ _) (views_of setup s))
      (others-flat (λ p. told_event setup p (status_of p) h e) (λ p. others-told p _ _) (views_of setup s))
      (others-flat (λ p. flat_map (λ n. told_event setup p (child_of p n) h e) (up_to (length (viewport_uses p h))))
      (λ p. others-flat (λ n. told_event setup p (child_of p n) h e) (λ n. others-told p _ _) (up_to (length (viewport_uses p h)))) (viewports_of setup s))
      (number_if (is_finish e.kind)) (number_if (is_begin e.kind)) (came h e) (at-end h (is_finish e.kind)) (at-start h e (is_begin e.kind))
    where
      sums : (abcdf abcd abc ab a b c d f m n k : ℕ) → abcdf ≡ abcd + f → abcd ≡ abc + d → abc ≡ ab + c → ab ≡ a + b → a ≡ 0 → b ≡ 0 → c ≡ 0 → d ≤ m + k → f ≤ n
          → abcdf ≤ m + n + k
      sums abcdf abcd abc ab a b c d f m n k p q r t na nb nc nd nf = omega (arith, p, q, r, t, na, nb, nc, nd, nf)

      five : (a b c d f : List Event) → others a ≡ 0 → others b ≡ 0 → others c ≡ 0 → (m n k : ℕ) → others d ≤ m + k → others f ≤ n
          → others (a ++ b ++ c ++ d ++ f) ≤ m + n + k
      five a b c d f na nb nc m n k nd nf =
          sums _ (others (a ++ b ++ c ++ d)) (others (a ++ b ++ c)) (others (a ++ b)) (others a) (others b) (others c) (others d) (others f) m n k
          (others-append (a ++ b ++ c ++ d) f) (others-append (a ++ b ++ c) d) (others-append (a ++ b) c) (others-append a b) na nb nc nd nf

  -- ---- all of a history

  abbrev sent : List Entry → ℕ
  sent [] = 0
  sent (h ▹ e) = sent h + length (events_to setup h e s)

  abbrev tokens : List Entry → ℕ
  tokens [] = 0
  tokens (h ▹ e) = tokens h + came h e

  unread-sent : (h : List Entry) → unread setup s h ≤ sent h
  unread-sent [] = omega arith
  unread-sent (h ▹ e) = by_poll (unread-sent h) (is_session s e.actor && is_poll e.kind)
    where
      by_poll : unread setup s h ≤ sent h → (b : Bool) → length (cond b [] (unread_events setup s h) ++ events_to setup h e s) ≤ sent h + length
          (events_to setup h e s)
      by_poll rest true = omega arith
      by_poll rest false = omega (arith, rest, length-append {A = Event} (unread_events setup s h) (events_to setup h e s))

  sent-few : (h : List Entry) → sent h ≤ answers setup s h + frame_entries h + tokens h
  sent-few [] = omega arith
  sent-few (h ▹ e) = by_close (sent-few h) (is_closed s (h ▹ e)) (number_if (is_session s e.actor && is_now e.reply))
    where
      by_close : sent h ≤ answers setup s h + frame_entries h + tokens h → (b : Bool) (m : ℕ)
          → sent h + length (cond b [] (news_for setup h e s)) ≤ answers setup s h + m + length (filter is_told (cond b [] (news_for setup h e s))) +
          (frame_entries h + number_if (is_finish e.kind) + number_if (is_begin e.kind)) + (tokens h + came h e)
      by_close rest true m = omega (arith, rest)
      by_close rest false m = omega (arith, rest, split (news_for setup h e s), others-news h e)

  -- ---- tokens

  abbrev seen_by : List Entry → PairNo → ℕ
  seen_by h p = releases_seen setup h s p

  back-few : (now then old : PairNo → ℕ) → ((p : PairNo) → old p ≤ then p) → ((p : PairNo) → then p ≤ now p) → (ps : List PairNo)
      → length (flat_map (λ p. replicate (now p - then p) (event.TokenBack p)) ps) + total old ps ≤ total now ps
  back-few now then old low high [] = omega arith
  back-few now then old low high (p ∷ ps) =
      omega (
        arith,
        low p,
        high p,
        length-append {A = Event} (replicate (now p - then p) (event.TokenBack p)) (flat_map (λ p. replicate (now p - then p) (event.TokenBack p)) ps),
        length-replicate (now p - then p) (event.TokenBack p),
        back-few now then old low high ps,
      )

  finish-open : (h : List Entry) (kind : EntryKind) → keeps_time h kind ≡ true → is_finish kind ≡ true → is_frame_open h ≡ true
  finish-open h Finish keeps is = keeps
  finish-open h _ keeps is = cc

  tokens-few : (h : List Entry) → Legal setup h → tokens h ≤ total (seen_by (to_finished h)) (viewports_of setup s)
  tokens-few [] legal = omega arith
  tokens-few (h ▹ e) legal = by_kind (tokens-few h legal.0) (is_finish e.kind) refl
    where
      by_kind : tokens h ≤ total (seen_by (to_finished h)) (viewports_of setup s) → (b : Bool) → is_finish e.kind ≡ b
          → tokens h + length (cond b (tokens_back setup h s) []) ≤ total (seen_by (cond b (to_begin h) (to_finished h))) (viewports_of setup s)
      by_kind rest false goes = omega (arith, rest)
      by_kind rest true ends =
          let last : taken setup (drop 1 (to_begin h)) s ≡ taken setup (to_finished h) s =
          taken-begun setup s h legal.0 (finish-open h e.kind legal.1.may.times ends) in
          let less : taken setup (drop 1 (to_begin h)) s ≤ taken setup (to_begin h) s = taken-drop setup s (to_begin h) in
          omega (
            arith,
            rest,
            back-few (seen_by (to_begin h)) (seen_by (drop 1 (to_begin h))) (seen_by (to_finished h))
                (λ p. seen-rises setup s p (to_finished h) (drop 1 (to_begin h)) h (finished-earlier h) (begun-earlier h) (omega (arith, last)))
                (λ p. seen-rises setup s p (drop 1 (to_begin h)) (to_begin h) h (begun-earlier h) (begin-earlier h) less) (viewports_of setup s),
          )

  -- so the unread events of a session that is open are few
  pub unread-short : (h : List Entry) → Legal setup h → is_closed s h ≡ false → answers setup s h ≤ gets_made h → unread setup s h ≤ length h
  unread-short h legal opened told =
      let fewer : (p : PairNo) → owns_viewport setup s p ≡ true → seen_by (to_finished h) p ≤ length (viewport_uses p h) =
      λ p owned. few-one p _ (few-released setup s p owned h legal opened) in
      let released = total-less (owns_viewport setup s) (seen_by (to_finished h)) (λ p. length (viewport_uses p h)) fewer (viewports_of setup s)
      (viewports-owned setup s) in
      omega (arith, unread-sent h, sent-few h, tokens-few h legal, released, told, all-few (λ pair. is_session s pair.viewport) setup.pairs h)
    where
      few-one : (p : PairNo) (n : ℕ) → releases_seen setup (to_finished h) s p + n ≤ length (viewport_uses p h)
          → releases_seen setup (to_finished h) s p ≤ length (viewport_uses p h)
      few-one p n less = omega (arith, less)
