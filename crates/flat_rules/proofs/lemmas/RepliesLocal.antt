-- What a family's entries are answered depends on the family's entries and the frames alone.
use Rattle.std.proofs.Common.{◌≡◌, ℕ, zero, suc, ◌+◌, ◌-◌, Bool, true, false, cond, List, [], ◌∷◌, ◌++◌, refl, arith, ap, sym, ◌∙◌, Option, Some, None}
use Rattle.std.specs.Prelude.{◌==◌, ◌&&◌, length, flat_map, map, replicate, filter, nat_lt}
use Rattle.std.specs.List.{list_all, list_any}
use Rattle.std.proofs.lemmas.Grind.{common_steps}
use Rattle.std.proofs.lemmas.List.{append-nil}
use Rattle.std.proofs.lemmas.List.Folds.{list_any-append}
use Rattle.flat_base.specs.declared.ids.Actor.{Actor}
use Rattle.flat_base.specs.declared.ids.Actor.TheVariants.{Display, Session, Probe}
use Rattle.flat_base.specs.declared.ids.PairNo.{PairNo}
use Rattle.flat_base.specs.declared.ids.SessionNo.{SessionNo}
use Rattle.flat_scene.specs.declared.journal.Entry.{Entry}
use Rattle.flat_scene.specs.declared.journal.Event.{Event}
use Rattle.flat_scene.specs.declared.journal.Event.TheVariants as event
use Rattle.flat_scene.specs.declared.journal.EntryKind.{EntryKind}
use Rattle.flat_scene.specs.declared.setup.Setup.{Setup}
use Rattle.flat_scene.specs.Family.{only, is_kept, keeps}
use Rattle.flat_scene.specs.Laws.{IsClosedFamily}
use Rattle.flat_scene.specs.Frames.{credits, taken, sessions_to}
use Rattle.flat_scene.specs.History.{◌▹◌, is_closed, is_session, is_begin, is_finish}
use Rattle.flat_rules.specs.Legal.{Legal, is_token_back, is_told, is_poll, is_now, number_if, owns_viewport, has_token, sent_to, unread, unread_events, answers}
use Rattle.flat_rules.specs.Legal.{frames, is_frame_open, begin_time}
use Rattle.flat_rules.specs.Posts.{Sent, told_event, tokens_back, at_finish, at_begin, news_for, events_to, posted, up_to, frame_took, event_of}
use Rattle.flat_rules.specs.Watch.{Watcher, layout_of, status_of, child_of, watching, told}
use Rattle.flat_watch.specs.Told.{answer}
use Rattle.flat_rules.specs.Ends.{viewport_uses, views_of, viewports_of}
use Rattle.flat_rules.proofs.lemmas.EventsLocal.{viewports-owned, events-kept, events-dropped}
use Rattle.flat_rules.proofs.lemmas.Locality.{same-session, entry-owned}
use Rattle.flat_rules.proofs.ToldLocal.{IsFamilyPair, no-frame, no-viewport}
use Rattle.std.proofs.lemmas.Bool.{false_from_ne_true}
use Rattle.flat_scene.specs.declared.calls.Watch.{Watch}
use Rattle.flat_scene.specs.declared.journal.WatcherValue.{WatcherValue}

pub no-told : (p q : PairNo) (get : Option Watch) (value : Option WatcherValue) → list_any (is_token_back p) (event_of q get value) ≡ false
no-told p q None value = refl
no-told p q (Some get) None = refl
no-told p q (Some get) (Some value) = refl

-- an event, and to whom it goes
abbrev pub to_session : SessionNo → Event → Sent
to_session s event = record { to = s; event = event }

abbrev pub all_sent : (SessionNo → List Event) → List SessionNo → List Sent
all_sent events = flat_map (λ s. map (to_session s) (events s))

-- ---- whether there is an event of a sort

any-mapped : (test : Event → Bool) (s : SessionNo) (es : List Event) → list_any (λ sent. test sent.event) (map (to_session s) es) ≡ list_any test es
any-mapped test s [] = refl
any-mapped test s (e ∷ es) = rw (any-mapped test s es) refl

pub any-sent-same : (test : Event → Bool) (f g : SessionNo → List Event) → ((s : SessionNo) → list_any test (f s) ≡ list_any test (g s)) → (ss : List SessionNo)
    → list_any (λ sent. test sent.event) (all_sent f ss) ≡ list_any (λ sent. test sent.event) (all_sent g ss)
any-sent-same test f g same [] = refl
any-sent-same test f g same (s ∷ ss) =
    rw (
      list_any-append (λ (sent : Sent). test sent.event) (map (to_session s) (f s)) (all_sent f ss),
      list_any-append (λ (sent : Sent). test sent.event) (map (to_session s) (g s)) (all_sent g ss),
      any-mapped test s (f s),
      any-mapped test s (g s),
      same s,
      any-sent-same test f g same ss,
    ) refl

pub any-sent-none : (test : Event → Bool) (f : SessionNo → List Event) → ((s : SessionNo) → list_any test (f s) ≡ false) → (ss : List SessionNo)
    → list_any (λ sent. test sent.event) (all_sent f ss) ≡ false
any-sent-none test f none [] = refl
any-sent-none test f none (s ∷ ss) =
    rw (
      list_any-append (λ (sent : Sent). test sent.event) (map (to_session s) (f s)) (all_sent f ss),
      any-mapped test s (f s),
      none s,
      any-sent-none test f none ss,
    ) refl

-- ---- counts to which an entry adds nothing

unread-still : (mine polls : Bool) (ms ns more : List Event) → mine ≡ false → ms ≡ ns → more ≡ [] → ms ≡ cond (mine && polls) [] ns ++ more
unread-still mine polls ms ns more other same none = rw (other, same, none) (sym (append-nil ns))

answers-still : (mine now : Bool) (m n more : ℕ) → mine ≡ false → m ≡ n → more ≡ 0 → m ≡ n + number_if (mine && now) + more
answers-still mine now m n more other same none = rw (other, same, none) (omega arith)

-- ---- where a token comes back

any-flat-none : {X : Type 0} (o : X → Bool) (test : Event → Bool) (f : X → List Event) → ((x : X) → o x ≡ true → list_any test (f x) ≡ false) → (xs : List X)
    → list_all o xs ≡ true
    → list_any test (flat_map f xs) ≡ false
any-flat-none o test f none [] all = refl
any-flat-none o test f none (x ∷ xs) all =
    let first : list_any test (f x) ≡ false = none x (grind arith) in
    let rest : list_any test (flat_map f xs) ≡ false = any-flat-none o test f none xs (grind arith) in
    rw (list_any-append test (f x) (flat_map f xs), first, rest) refl

pub any-flat-nothing : {X : Type 0} (test : Event → Bool) (f : X → List Event) → ((x : X) → list_any test (f x) ≡ false) → (xs : List X)
    → list_any test (flat_map f xs) ≡ false
any-flat-nothing test f none [] = refl
any-flat-nothing test f none (x ∷ xs) = rw (list_any-append test (f x) (flat_map f xs), none x, any-flat-nothing test f none xs) refl

replicate-no-token : (p q : PairNo) → (q.0 == p.0) ≡ false → (n : ℕ) → list_any (is_token_back p) (replicate n (event.TokenBack q)) ≡ false
replicate-no-token p q other zero = refl
replicate-no-token p q other (suc n) = rw (other, replicate-no-token p q other n) refl

pub five-none : (test : Event → Bool) (a b c d e : List Event) → list_any test a ≡ false → list_any test b ≡ false → list_any test c ≡ false
    → list_any test d ≡ false → list_any test e ≡ false
    → list_any test (a ++ b ++ c ++ d ++ e) ≡ false
five-none test a b c d e na nb nc nd ne =
    rw (
      list_any-append test (a ++ b ++ c ++ d) e,
      list_any-append test (a ++ b ++ c) d,
      list_any-append test (a ++ b) c,
      list_any-append test a b,
      na,
      nb,
      nc,
      nd,
      ne,
    ) refl

-- where there is none, there is none under a condition
pub none-if : (test : Event → Bool) (b : Bool) (es : List Event) → list_any test es ≡ false → list_any test (cond b es []) ≡ false
none-if test true es none = none
none-if test false es none = refl

pub none-unless : (test : Event → Bool) (b : Bool) (es : List Event) → (b ≡ false → list_any test es ≡ false) → list_any test (cond b [] es) ≡ false
none-unless test true es none = refl
none-unless test false es none = none refl

module _ (setup : Setup) where
  -- tokens come back at the end of a frame
  pub token-at-finish : (p : PairNo) (s : SessionNo) (before : List Entry) (e : Entry)
      → list_any (is_token_back p) (cond (is_finish e.kind) (at_finish setup before s) []) ≡ false
      → list_any (is_token_back p) (events_to setup before e s) ≡ false
  token-at-finish p s before e none =
      let layouts : PairNo → List Event = λ q. told_event setup q (layout_of q) before e in
      let statuses : PairNo → List Event = λ q. told_event setup q (status_of q) before e in
      let child : PairNo → ℕ → List Event = λ q n. told_event setup q (child_of q n) before e in
      let children : PairNo → List Event = λ q. flat_map (child q) (up_to (length (viewport_uses q before))) in
      none-unless (is_token_back p) (is_closed s (before ▹ e)) (news_for setup before e s) (λ going.
      five-none (is_token_back p)
      (flat_map layouts (views_of setup s)) (flat_map statuses (views_of setup s)) (flat_map children (viewports_of setup s))
      (cond (is_finish e.kind) (at_finish setup before s) []) (cond (is_begin e.kind) (at_begin setup before e s) [])
      (any-flat-nothing (is_token_back p) layouts (λ q. told_none q (layout_of q)) (views_of setup s))
      (any-flat-nothing (is_token_back p) statuses (λ q. told_none q (status_of q)) (views_of setup s))
      (any-flat-nothing (is_token_back p) children (λ q. any-flat-nothing (is_token_back p) (child q) (λ n. told_none q (child_of q n))
      (up_to (length (viewport_uses q before)))) (viewports_of setup s))
      none
      (none-if (is_token_back p) (is_begin e.kind) (at_begin setup before e s)
      (none-if (is_token_back p) (nat_lt (taken setup before s) (taken setup (before ▹ e) s))
      (event.Credits (credits setup (before ▹ e) s - credits setup before s) ∷ []) refl)))
    where
      told_none : (q : PairNo) (watcher : Watcher) → list_any (is_token_back p) (told_event setup q watcher before e) ≡ false
      told_none q watcher = no-told p q (watching setup watcher before).waits (answer (told setup (before ▹ e) watcher) (watching setup watcher before))

  -- a session is sent back only the tokens of its own pairs
  pub token-elsewhere : (p : PairNo) (s : SessionNo) → owns_viewport setup s p ≡ false → (before : List Entry) (e : Entry)
      → list_any (is_token_back p) (events_to setup before e s) ≡ false
  token-elsewhere p s not_its before e = token-at-finish p s before e (none-if (is_token_back p) (is_finish e.kind) (at_finish setup before s) finish_none)
    where
      other_pair : (q : PairNo) → owns_viewport setup s q ≡ true → (q.0 == p.0) ≡ false
      other_pair q owns = false_from_ne_true (q.0 == p.0) (λ is.
          let same : q.0 ≡ p.0 = grind (arith, common_steps) in
          let moved : owns_viewport setup s q ≡ owns_viewport setup s p = ap (λ (n : ℕ). let r : PairNo = record { 0 = n } in owns_viewport setup s r) same in
          cc)

      finish_none : list_any (is_token_back p) (at_finish setup before s) ≡ false
      finish_none =
          let shown : list_any (is_token_back p) (cond (nat_lt 0 (frame_took setup before s)) (event.FramePresented (frame_took setup before s) ∷ []) [])
          ≡ false =
          none-if (is_token_back p) (nat_lt 0 (frame_took setup before s)) (event.FramePresented (frame_took setup before s) ∷ []) refl in
          let back : list_any (is_token_back p) (tokens_back setup before s) ≡ false =
          any-flat-none (owns_viewport setup s) (is_token_back p) _ (λ q owns. replicate-no-token p q (other_pair q owns) _) (viewports_of setup s)
          (viewports-owned setup s) in
          rw (
            list_any-append (is_token_back p) (cond (nat_lt 0 (frame_took setup before s)) (event.FramePresented (frame_took setup before s) ∷ []) [])
                (tokens_back setup before s),
            shown,
            back,
          ) refl

module _ (setup : Setup) (of_family : SessionNo → Bool) (closed : IsClosedFamily setup of_family) where
  -- ---- frames

  pub frame-open-only : (history : List Entry) → Legal setup history → is_frame_open (only of_family history) ≡ is_frame_open history
  frame-open-only [] legal = refl
  frame-open-only (before ▹ e) legal = by_side (frame-open-only before legal.0) (is_kept of_family e) refl
    where
      by_side : is_frame_open (only of_family before) ≡ is_frame_open before → (k : Bool) → is_kept of_family e ≡ k
          → is_frame_open (only of_family (before ▹ e)) ≡ is_frame_open (before ▹ e)
      by_side earlier true kept = rw (kept, earlier) refl
      by_side earlier false out = rw (
        out,
        (no-frame setup of_family closed e.kind e.actor out legal.1.may.acts).0,
        (no-frame setup of_family closed e.kind e.actor out legal.1.may.acts).1,
      ) earlier

  pub begin-time-only : (history : List Entry) → Legal setup history → begin_time (only of_family history) ≡ begin_time history
  begin-time-only [] legal = refl
  begin-time-only (before ▹ e) legal = by_side (begin-time-only before legal.0) (is_kept of_family e) refl
    where
      by_side : begin_time (only of_family before) ≡ begin_time before → (k : Bool) → is_kept of_family e ≡ k
          → begin_time (only of_family (before ▹ e)) ≡ begin_time (before ▹ e)
      by_side earlier true kept = rw (kept, earlier) refl
      by_side earlier false out = rw (out, (no-frame setup of_family closed e.kind e.actor out legal.1.may.acts).0) earlier

  pub frames-only : (history : List Entry) → Legal setup history → frames (only of_family history) ≡ frames history
  frames-only [] legal = refl
  frames-only (before ▹ e) legal = by_side (frames-only before legal.0) (is_kept of_family e) refl (is_finish e.kind) refl
    where
      by_side : frames (only of_family before) ≡ frames before → (k : Bool) → is_kept of_family e ≡ k → (b : Bool) → is_finish e.kind ≡ b
          → frames (only of_family (before ▹ e)) ≡ frames (before ▹ e)
      by_side earlier true kept true ends = rw (kept, ends) (ap suc earlier)
      by_side earlier true kept false other = rw (kept, other) earlier
      by_side earlier false out b is = rw (out, (no-frame setup of_family closed e.kind e.actor out legal.1.may.acts).1) earlier

  -- ---- tokens

  not-outside : (p : PairNo) → IsFamilyPair setup of_family closed p → (s : SessionNo) → of_family s ≡ false → owns_viewport setup s p ≡ false
  not-outside p pair s out = false_from_ne_true (owns_viewport setup s p) (λ owns. let inside : of_family s ≡ true = pair.viewport s owns in cc)

  back-kept : (p : PairNo) → IsFamilyPair setup of_family closed p → (before : List Entry) (e : Entry) → Legal setup (before ▹ e) → is_kept of_family e ≡ true
      → list_any (λ sent. is_token_back p sent.event) (posted setup (only of_family before) e)
      ≡ list_any (λ sent. is_token_back p sent.event) (posted setup before e)
  back-kept p pair before e legal kept =
      any-sent-same (is_token_back p) (events_to setup (only of_family before) e) (events_to setup before e) (λ s. by_side s (of_family s) refl)
      (sessions_to setup.sessions)
    where
      by_side : (s : SessionNo) (b : Bool) → of_family s ≡ b
          → list_any (is_token_back p) (events_to setup (only of_family before) e s) ≡ list_any (is_token_back p) (events_to setup before e s)
      by_side s true mine = ap (list_any (is_token_back p)) (events-kept setup of_family closed before e legal kept s mine)
      by_side s false out = token-elsewhere setup p s (not-outside p pair s out) (only of_family before) e
          ∙ sym (token-elsewhere setup p s (not-outside p pair s out) before e)

  back-dropped : (p : PairNo) → IsFamilyPair setup of_family closed p → (before : List Entry) (e : Entry) → Legal setup (before ▹ e)
      → is_kept of_family e ≡ false
      → list_any (λ sent. is_token_back p sent.event) (posted setup before e) ≡ false
  back-dropped p pair before e legal out =
      any-sent-none (is_token_back p) (events_to setup before e) (λ s. by_side s (of_family s) refl) (sessions_to setup.sessions)
    where
      by_side : (s : SessionNo) (b : Bool) → of_family s ≡ b → list_any (is_token_back p) (events_to setup before e s) ≡ false
      by_side s true mine = ap (list_any (is_token_back p)) (events-dropped setup of_family closed before e legal out s mine)
      by_side s false far = token-elsewhere setup p s (not-outside p pair s far) before e

  pub token-only : (p : PairNo) → IsFamilyPair setup of_family closed p → (history : List Entry) → Legal setup history
      → has_token setup p (only of_family history) ≡ has_token setup p history
  token-only p pair [] legal = refl
  token-only p pair (before ▹ e) legal = by_side (token-only p pair before legal.0) (is_kept of_family e) refl
    where
      by_side : has_token setup p (only of_family before) ≡ has_token setup p before → (k : Bool) → is_kept of_family e ≡ k
          → has_token setup p (only of_family (before ▹ e)) ≡ has_token setup p (before ▹ e)
      by_side earlier true kept = rw (kept, earlier, back-kept p pair before e legal kept) refl
      by_side earlier false out =
          rw (
            out,
            no-viewport setup of_family closed p pair e.kind e.actor out legal.1.may.acts (entry-owned setup before e legal.1),
            back-dropped p pair before e legal out,
          )
          (grind (arith, earlier))

  -- ---- counts of events

  sent-kept : (s : SessionNo) → of_family s ≡ true → (test : Event → Bool) (before : List Entry) (e : Entry) → Legal setup (before ▹ e)
      → is_kept of_family e ≡ true
      → sent_to setup s test (only of_family before) e ≡ sent_to setup s test before e
  sent-kept s mine test before e legal kept = ap (λ (es : List Event). length (filter test es)) (events-kept setup of_family closed before e legal kept s mine)

  sent-dropped : (s : SessionNo) → of_family s ≡ true → (test : Event → Bool) (before : List Entry) (e : Entry) → Legal setup (before ▹ e)
      → is_kept of_family e ≡ false
      → sent_to setup s test before e ≡ 0
  sent-dropped s mine test before e legal out = ap (λ (es : List Event). length (filter test es))
      (events-dropped setup of_family closed before e legal out s mine)

  -- a dropped entry is none of the family's
  not-its : (s : SessionNo) → of_family s ≡ true → (kind : EntryKind) (actor : Actor) → keeps of_family kind actor ≡ false → is_session s actor ≡ false
  not-its s mine kind Display out = refl
  not-its s mine kind (Probe p) out = refl
  not-its s mine kind (Session t) out = false_from_ne_true (t.0 == s.0) (λ is. let same : of_family t ≡ of_family s = ap of_family (same-session s t is) in cc)

  unread-same : (s : SessionNo) → of_family s ≡ true → (history : List Entry) → Legal setup history
      → unread_events setup s (only of_family history) ≡ unread_events setup s history
  unread-same s mine [] legal = refl
  unread-same s mine (before ▹ e) legal = by_side (unread-same s mine before legal.0) (is_kept of_family e) refl
    where
      by_side : unread_events setup s (only of_family before) ≡ unread_events setup s before → (k : Bool) → is_kept of_family e ≡ k
          → unread_events setup s (only of_family (before ▹ e)) ≡ unread_events setup s (before ▹ e)
      by_side earlier true kept = rw (kept, earlier, events-kept setup of_family closed before e legal kept s mine) refl
      by_side earlier false out =
          rw out (unread-still (is_session s e.actor) (is_poll e.kind) (unread_events setup s (only of_family before)) (unread_events setup s before)
          (events_to setup before e s)
          (not-its s mine e.kind e.actor out) earlier (events-dropped setup of_family closed before e legal out s mine))

  pub unread-only : (s : SessionNo) → of_family s ≡ true → (history : List Entry) → Legal setup history
      → unread setup s (only of_family history) ≡ unread setup s history
  unread-only s mine history legal = ap length (unread-same s mine history legal)

  pub answers-only : (s : SessionNo) → of_family s ≡ true → (history : List Entry) → Legal setup history
      → answers setup s (only of_family history) ≡ answers setup s history
  answers-only s mine [] legal = refl
  answers-only s mine (before ▹ e) legal = by_side (answers-only s mine before legal.0) (is_kept of_family e) refl
    where
      by_side : answers setup s (only of_family before) ≡ answers setup s before → (k : Bool) → is_kept of_family e ≡ k
          → answers setup s (only of_family (before ▹ e)) ≡ answers setup s (before ▹ e)
      by_side earlier true kept = rw kept (omega (arith, earlier, sent-kept s mine is_told before e legal kept))
      by_side earlier false out =
          rw out (answers-still (is_session s e.actor) (is_now e.reply) (answers setup s (only of_family before)) (answers setup s before)
          (sent_to setup s is_told before e)
          (not-its s mine e.kind e.actor out) earlier (sent-dropped s mine is_told before e legal out))
