-- What a session's neighbours can't change.
use Rattle.std.proofs.Common.{◌≡◌, ℕ, suc, ◌-◌, Bool, true, false, cond, List, [], ◌∷◌, ◌++◌, refl, arith, ap, sym, ◌∙◌, subst, drop}
use Rattle.std.specs.Prelude.{◌==◌, ◌&&◌, ◌||◌, not, Option, Some, None, length, flat_map, map, filter, replicate, nat_lt, Ok}
use Rattle.std.specs.List.{list_all, list_any, drop-map}
use Rattle.std.proofs.lemmas.Grind.{common_steps}
use Rattle.std.proofs.lemmas.List.Sums.{take_while-cons}
use Rattle.std.proofs.lemmas.List.Elements.{filter-append}
use Rattle.flat_base.specs.declared.ids.Actor.{Actor}
use Rattle.flat_base.specs.declared.ids.Actor.TheVariants.{Display, Session, Probe}
use Rattle.flat_base.specs.declared.ids.PairNo.{PairNo}
use Rattle.flat_base.specs.declared.ids.SessionNo.{SessionNo}
use Rattle.flat_base.specs.declared.ids.FenceNo.{FenceNo}
use Rattle.flat_scene.specs.declared.calls.Call.{Call}
use Rattle.flat_scene.specs.declared.calls.Watch.{Watch}
use Rattle.flat_scene.specs.declared.journal.Entry.{Entry}
use Rattle.flat_scene.specs.declared.journal.Event.{Event}
use Rattle.flat_scene.specs.declared.journal.Event.TheVariants as event
use Rattle.flat_scene.specs.declared.journal.EntryKind.{EntryKind}
use Rattle.flat_scene.specs.declared.journal.EntryKind.TheVariants.{View, Viewport, Present, Get, Signal, Poll, Wait, Close, End, Begin, Finish, Hit, Dpr}
use Rattle.flat_scene.specs.declared.journal.Reply.{Reply}
use Rattle.flat_scene.specs.declared.journal.Reply.TheVariants.{Done}
use Rattle.flat_scene.specs.declared.journal.WatcherValue.{WatcherValue}
use Rattle.flat_scene.specs.declared.setup.Setup.{Setup}
use Rattle.flat_scene.specs.Draft.{empty_draft}
use Rattle.flat_rules.specs.Ends.{views_of, viewports_of, is_done, uses_view, uses_viewport, view_uses, viewport_uses, view_owner, viewport_owner, to_begin}
use Rattle.flat_rules.specs.Ends.{taken_calls, times, releases_viewport}
use Rattle.flat_scene.specs.Laws.{IsClosedFamily}
use Rattle.flat_scene.specs.Frames.{taken, takes, credits, is_signalled, is_ready, is_unsquashable, up_to_first, ready_run, ready_prefix, sessions_to}
use Rattle.flat_scene.specs.History.{◌▹◌, is_closed, is_session, closes, presents, published, Published, calls, is_begin, is_finish}
use Rattle.flat_rules.specs.Laws.{is_beside, but_answers, Glimpse, glimpse, glimpses, is_own_event, has_own_reply, Outcome, outcome, outcomes, own_events}
use Rattle.flat_rules.specs.Legal.{Legal, LegalEntry, is_token_back, may_act, owns_view, owns_viewport, owns_in_kind, has_token, reply_to, reply_to_present}
use Rattle.flat_rules.specs.Kinds.{is_get}
use Rattle.flat_rules.specs.Local.{GlimpsesDecideOutcomes, OthersPostNone}
use Rattle.flat_rules.specs.Posts.{event_of, told_event, at_finish, at_begin, news_for, events_to, posted, up_to}
use Rattle.flat_rules.specs.Watch.{Watcher, layout_of, status_of, child_of, watching, told}
use Rattle.flat_watch.specs.Told.{answer}
use Rattle.flat_rules.proofs.lemmas.EventsLocal.{same-credits}
use Rattle.flat_rules.proofs.lemmas.Locality.{entry-owned, same-session, same-number}
use Rattle.flat_rules.proofs.lemmas.RepliesLocal.{any-sent-none, any-sent-same, token-at-finish, token-elsewhere}
use Rattle.flat_scene.proofs.lemmas.Steps.{presents-own, presents-other}
use Rattle.flat_rules.proofs.lemmas.WatchLocal.{one-view, one-viewport}
use Rattle.std.proofs.lemmas.Bool.{false_from_ne_true}
use Rattle.flat_rules.proofs.lemmas.Quiet.{takes-none, closes-waited}

-- all sessions are a closed family
pub everyone : (setup : Setup) → IsClosedFamily setup (λ t. true)
everyone setup = record { grows = λ s t here link. refl }

-- two entries with the same parts
same-entry : (e e' : Entry) → e.actor ≡ e'.actor → e.line ≡ e'.line → e.calls ≡ e'.calls → e.kind ≡ e'.kind → e.reply ≡ e'.reply → e ≡ e'
same-entry e e' actor line calls kind reply = λ i. record { actor = actor i; line = line i; calls = calls i; kind = kind i; reply = reply i }

-- ---- lists

all-agree : {X : Type 0} (f g : X → Bool) (xs : List X) → map f xs ≡ map g xs → list_all f xs ≡ list_all g xs
all-agree f g [] same = refl
all-agree f g (x ∷ xs) same =
    let first : f x ≡ g x = cc in
    let rest : list_all f xs ≡ list_all g xs = all-agree f g xs (cc) in
    rw (first, rest) refl

-- which acquire fences are signalled, present by present
abbrev pub seen : (FenceNo → Bool) → List Published → List (List Bool)
seen f = map (λ present. map f present.args.acquire)

run-agree : (time : ℕ) (f g : FenceNo → Bool) (xs : List Published) → seen f xs ≡ seen g xs → ready_run time f xs ≡ ready_run time g xs
run-agree time f g [] same = refl
run-agree time f g (x ∷ xs) same =
    let first : list_all f x.args.acquire ≡ list_all g x.args.acquire = all-agree f g x.args.acquire (cc) in
    let rest : ready_run time f xs ≡ ready_run time g xs = run-agree time f g xs (cc) in
    rw (
      take_while-cons (λ present. is_ready time f present.args) x xs,
      take_while-cons (λ present. is_ready time g present.args) x xs,
      first,
      rest,
    )

ready-agree : (time : ℕ) (f g : FenceNo → Bool) (xs : List Published) → seen f xs ≡ seen g xs → ready_prefix time f xs ≡ ready_prefix time g xs
ready-agree time f g xs same = ap (up_to_first is_unsquashable) (run-agree time f g xs same)

takes-agree : (kind : EntryKind) (f g : FenceNo → Bool) (is_shut : Bool) (n : ℕ) (xs : List Published) → (is_begin kind ≡ true → seen f xs ≡ seen g xs)
    → takes kind f is_shut (drop n xs) ≡ takes kind g is_shut (drop n xs)
takes-agree (Begin time) f g is_shut n xs same =
    let later : seen f (drop n xs) ≡ seen g (drop n xs) =
    sym (drop-map (λ (present : Published). map f present.args.acquire) n xs)
    ∙ (ap (drop n) (same refl) ∙ drop-map (λ (present : Published). map g present.args.acquire) n xs) in
    ap (λ (ready : List Published). cond is_shut [] ready) (ready-agree time f g (drop n xs) later)
takes-agree _ f g is_shut n xs same = refl

-- ---- a session's own events

flat-own : {X : Type 0} (f : X → List Event) → ((x : X) → filter is_own_event (f x) ≡ []) → (xs : List X) → filter is_own_event (flat_map f xs) ≡ []
flat-own f none [] = refl
flat-own f none (x ∷ xs) = rw (filter-append is_own_event (f x) (flat_map f xs), none x, flat-own f none xs) refl

event-not-own : (q : PairNo) (w : Option Watch) (a : Option WatcherValue) → filter is_own_event (event_of q w a) ≡ []
event-not-own q (Some get) (Some value) = refl
event-not-own q (Some get) None = refl
event-not-own q None a = refl

own-two : (a b c d e : List Event) → filter is_own_event a ≡ [] → filter is_own_event b ≡ [] → filter is_own_event c ≡ []
    → filter is_own_event (a ++ b ++ c ++ d ++ e) ≡ filter is_own_event d ++ filter is_own_event e
own-two a b c d e na nb nc =
    rw (
      filter-append is_own_event (a ++ b ++ c ++ d) e,
      filter-append is_own_event (a ++ b ++ c) d,
      filter-append is_own_event (a ++ b) c,
      filter-append is_own_event a b,
      na,
      nb,
      nc,
    ) refl

token-is-own : (p : PairNo) (es : List Event) → list_any (is_token_back p) es ≡ list_any (is_token_back p) (filter is_own_event es)
token-is-own p [] = refl
token-is-own p (event.Told q get value ∷ es) = token-is-own p es
token-is-own p (event.Credits k ∷ es) = token-is-own p es
token-is-own p (event.FramePresented k ∷ es) = token-is-own p es
token-is-own p (event.TokenBack q ∷ es) = rw (token-is-own p es) refl

-- ---- replies

own-kind : (kind : EntryKind) → has_own_reply kind ≡ true → (is_begin kind ≡ false) × (is_finish kind ≡ false)
own-kind (View p) own = (refl, refl)
own-kind (Viewport p props) own = (refl, refl)
own-kind (Present args) own = (refl, refl)
own-kind _ own = absurd (let h : false ≡ true = own in cc)

-- an entry with another line and another reply
abbrev pub with_reply : Entry → ℕ → Reply → Entry
with_reply e n r = record e { line = n; reply = r }

length-if : {X : Type 0} (b : Bool) (x : X) (xs : List X) → length (cond b (x ∷ xs) xs) ≡ cond b (suc (length xs)) (length xs)
length-if true x xs = refl
length-if false x xs = refl

four : {A B : Type 0} (f : ℕ → ℕ → A → A → B) (m m' n n' : ℕ) (a a' b b' : A) → m ≡ m' → n ≡ n' → a ≡ a' → b ≡ b' → f m n a b ≡ f m' n' a' b'
four f m m' n n' a a' b b' pm pn pa pb = cc

module _ (setup : Setup) (s : SessionNo) where
  -- ---- what another's entry leaves

  others-view : (p : PairNo) → owns_view setup s p ≡ true → (kind : EntryKind) (actor : Actor) → is_session s actor ≡ false → may_act setup kind actor ≡ true
      → ((t : SessionNo) → is_session t actor ≡ true → owns_in_kind setup t kind ≡ true) → uses_view p kind ≡ false
  others-view p mine (View q) Display other acts owns = absurd (let h : false ≡ true = acts in cc)
  others-view p mine (View q) (Probe n) other acts owns = absurd (let h : false ≡ true = acts in cc)
  others-view p mine (View q) (Session t) other acts owns = false_from_ne_true (q.0 == p.0) (λ is.
      let same : q.0 ≡ p.0 = grind (arith, common_steps) in
      let moved : owns_view setup t q ≡ owns_view setup t p = ap (λ (n : ℕ). let r : PairNo = record { 0 = n } in owns_view setup t r) same in
      let one : s ≡ t = one-view (view_owner setup p) s t mine (sym moved ∙ owns t (same-number t.0)) in
      let here : is_session s (Session t) ≡ true = subst (λ (u : SessionNo). is_session u (Session t) ≡ true) (sym one) (same-number t.0) in
      let both : true ≡ false = sym here ∙ other in cc)
  others-view p mine _ actor other acts owns = refl

  others-viewport : (p : PairNo) → owns_viewport setup s p ≡ true → (kind : EntryKind) (actor : Actor) → is_session s actor ≡ false
      → may_act setup kind actor ≡ true
      → ((t : SessionNo) → is_session t actor ≡ true → owns_in_kind setup t kind ≡ true) → uses_viewport p kind ≡ false
  others-viewport p mine (Viewport q props) Display other acts owns = absurd (let h : false ≡ true = acts in cc)
  others-viewport p mine (Viewport q props) (Probe n) other acts owns = absurd (let h : false ≡ true = acts in cc)
  others-viewport p mine (Viewport q props) (Session t) other acts owns = false_from_ne_true (q.0 == p.0) (λ is.
      let same : q.0 ≡ p.0 = grind (arith, common_steps) in
      let moved : owns_viewport setup t q ≡ owns_viewport setup t p = ap (λ (n : ℕ). let r : PairNo = record { 0 = n } in owns_viewport setup t r) same in
      let one : s ≡ t = one-viewport (viewport_owner setup p) s t mine (sym moved ∙ owns t (same-number t.0)) in
      let here : is_session s (Session t) ≡ true = subst (λ (u : SessionNo). is_session u (Session t) ≡ true) (sym one) (same-number t.0) in
      let both : true ≡ false = sym here ∙ other in cc)
  others-viewport p mine _ actor other acts owns = refl

  took-quiet : (before : List Entry) (e : Entry) → is_begin e.kind ≡ false → taken setup (before ▹ e) s ≡ taken setup before s
  took-quiet before e is = rw (takes-none e.kind (is_signalled setup before) (is_closed s before) (drop (taken setup before s) (presents s before)) is)
      (omega arith)

  back-quiet : (p : PairNo) (before : List Entry) (e : Entry) → is_finish e.kind ≡ false
      → list_any (λ sent. is_token_back p sent.event) (posted setup before e) ≡ false
  back-quiet p before e is =
      any-sent-none (is_token_back p) (events_to setup before e) (λ t. token-at-finish setup p t before e (rw is refl)) (sessions_to setup.sessions)

  -- What a session and the frames decide is the same after two histories.
  pub record Same (h h' : List Entry) : Type 0 where
    pub made : presents s h ≡ presents s h'
    pub carried : calls s h ≡ calls s h'
    pub shut : is_closed s h ≡ is_closed s h'
    pub took : taken setup h s ≡ taken setup h' s
    pub took_begin : taken setup (to_begin h) s ≡ taken setup (to_begin h') s
    pub took_begun : taken setup (drop 1 (to_begin h)) s ≡ taken setup (drop 1 (to_begin h')) s
    pub calls_begin : taken_calls setup (to_begin h) s ≡ taken_calls setup (to_begin h') s
    pub calls_begun : taken_calls setup (drop 1 (to_begin h)) s ≡ taken_calls setup (drop 1 (to_begin h')) s
    pub views : (p : PairNo) → owns_view setup s p ≡ true → length (view_uses p h) ≡ length (view_uses p h')
    pub tokens : (p : PairNo) → owns_viewport setup s p ≡ true → has_token setup p h ≡ has_token setup p h'
    pub results : outcomes setup s h ≡ outcomes setup s h'

  same-back : (h h' : List Entry) → Same h h' → Same h' h
  same-back h h' same = record {
    made = sym same.made;
    carried = sym same.carried;
    shut = sym same.shut;
    took = sym same.took;
    took_begin = sym same.took_begin;
    took_begun = sym same.took_begun;
    calls_begin = sym same.calls_begin;
    calls_begun = sym same.calls_begun;
    views = λ p mine. sym (same.views p mine);
    tokens = λ p mine. sym (same.tokens p mine);
    results = sym same.results;
  }

  -- an entry that isn't beside the session's changes nothing of it
  quiet-left : (before : List Entry) (e : Entry) (h' : List Entry) → Legal setup (before ▹ e) → is_beside s e ≡ false → Same before h' → Same (before ▹ e) h'
  quiet-left before e h' legal out same =
      let other : is_session s e.actor ≡ false = grind arith in
      let no_begin : is_begin e.kind ≡ false = grind arith in
      let no_finish : is_finish e.kind ≡ false = grind arith in
      record {
        made = presents-other s before e other ∙ same.made;
        carried = rw other same.carried;
        shut = rw other same.shut;
        took = took-quiet before e no_begin ∙ same.took;
        took_begin = rw no_begin same.took_begin;
        took_begun = rw no_begin same.took_begun;
        calls_begin = rw no_begin same.calls_begin;
        calls_begun = rw no_begin same.calls_begun;
        views = λ p mine. rw (others-view p mine e.kind e.actor other legal.1.may.acts (entry-owned setup before e legal.1)) (same.views p mine);
        tokens = λ p mine. rw (
          others-viewport p mine e.kind e.actor other legal.1.may.acts (entry-owned setup before e legal.1),
          back-quiet p before e no_finish,
        ) (or-none _ _ (same.tokens p mine));
        results = rw out same.results;
      }
    where
      or-none : (a b : Bool) → a ≡ b → (a || false) ≡ b
      or-none a b is = grind arith

  -- ---- an entry of the session, or of a frame, in both histories

  credits-same : (h h' : List Entry) → presents s h ≡ presents s h' → taken setup h s ≡ taken setup h' s → credits setup h s ≡ credits setup h' s
  credits-same h h' made took = rw (took, made) refl

  taken-calls-same : (h h' : List Entry) → presents s h ≡ presents s h' → taken setup h s ≡ taken setup h' s → taken_calls setup h s ≡ taken_calls setup h' s
  taken-calls-same h h' made took = rw (took, made) refl

  -- what the end of a frame posts to the session, by four things of its begin
  at_finish_of : ℕ → ℕ → List Call → List Call → List Event
  at_finish_of now earlier calls_now calls_earlier =
      cond (nat_lt 0 (now - earlier)) (event.FramePresented (now - earlier) ∷ []) []
      ++ flat_map (λ p. replicate (times setup (releases_viewport p) (Ok empty_draft) calls_now - times setup (releases_viewport p) (Ok empty_draft)
      calls_earlier) (event.TokenBack p)) (viewports_of setup s)

  finish-is : (h : List Entry) → at_finish setup h s ≡ at_finish_of (taken setup (to_begin h) s) (taken setup (drop 1 (to_begin h)) s)
      (taken_calls setup (to_begin h) s) (taken_calls setup (drop 1 (to_begin h)) s)
  unfolding at_finish_of
  finish-is h = refl

  finish-same : (h h' : List Entry) → Same h h' → at_finish setup h s ≡ at_finish setup h' s
  finish-same h h' same = finish-is h ∙ (four at_finish_of _ _ _ _ _ _ _ _ same.took_begin same.took_begun same.calls_begin same.calls_begun
      ∙ sym (finish-is h'))

  own-news : (before : List Entry) (e : Entry) → filter is_own_event (news_for setup before e s)
      ≡ filter is_own_event (cond (is_finish e.kind) (at_finish setup before s) [])
      ++ filter is_own_event (cond (is_begin e.kind) (at_begin setup before e s) [])
  own-news before e =
      let layouts : PairNo → List Event = λ q. told_event setup q (layout_of q) before e in
      let statuses : PairNo → List Event = λ q. told_event setup q (status_of q) before e in
      let child : PairNo → ℕ → List Event = λ q n. told_event setup q (child_of q n) before e in
      let children : PairNo → List Event = λ q. flat_map (child q) (up_to (length (viewport_uses q before))) in
      own-two
      (flat_map layouts (views_of setup s)) (flat_map statuses (views_of setup s)) (flat_map children (viewports_of setup s))
      (cond (is_finish e.kind) (at_finish setup before s) []) (cond (is_begin e.kind) (at_begin setup before e s) [])
      (flat-own layouts (λ q. told_none q (layout_of q)) (views_of setup s))
      (flat-own statuses (λ q. told_none q (status_of q)) (views_of setup s))
      (flat-own children (λ q. flat-own (child q) (λ n. told_none q (child_of q n)) (up_to (length (viewport_uses q before)))) (viewports_of setup s))
    where
      told_none : (q : PairNo) (watcher : Watcher) → filter is_own_event (told_event setup q watcher before e) ≡ []
      told_none q watcher = event-not-own q (watching setup watcher before).waits (answer (told setup (before ▹ e) watcher) (watching setup watcher before))

  own-if : (b b' : Bool) (l l' : List Event) → b ≡ b' → filter is_own_event l ≡ filter is_own_event l'
      → filter is_own_event (cond b [] l) ≡ filter is_own_event (cond b' [] l')
  own-if true true l l' is same = refl
  own-if false false l l' is same = same
  own-if true false l l' is same = absurd (let h : true ≡ false = is in cc)
  own-if false true l l' is same = absurd (let h : false ≡ true = is in cc)

  present-same : (h h' : List Entry) → Same h h' → (actor : Actor) → is_session s actor ≡ true
      → reply_to_present setup h actor ≡ reply_to_present setup h' actor
  present-same h h' same (Session t) is =
      subst (λ (u : SessionNo). reply_to_present setup h (Session u) ≡ reply_to_present setup h' (Session u)) (sym (same-session s t is))
      (rw (same.took, same.made) refl)
  present-same h h' same Display is = cc
  present-same h h' same (Probe p) is = cc

  own-reply-same : (h h' : List Entry) → Same h h' → (kind : EntryKind) → has_own_reply kind ≡ true → owns_in_kind setup s kind ≡ true → (actor : Actor)
      → is_session s actor ≡ true → (carries : List Call)
      → reply_to setup h actor carries kind ≡ reply_to setup h' actor carries kind
  own-reply-same h h' same (View p) own owns actor is carries = rw (same.views p owns) refl
  own-reply-same h h' same (Viewport p props) own owns actor is carries = rw (same.tokens p owns) refl
  own-reply-same h h' same (Present args) own owns actor is carries = present-same h h' same actor is
  own-reply-same h h' same _ own owns actor is carries = absurd (let h : false ≡ true = own in cc)

  module _ (b b' : List Entry) (e : Entry) (n : ℕ) (r : Reply) (legal : LegalEntry setup b e) (legal' : LegalEntry setup b' (with_reply e n r))
      (same : Same b b') (beside : is_beside s e ≡ true)
      (gets : is_get e.kind ≡ true → e.reply ≡ r) (fences : is_begin e.kind ≡ true
      → seen (is_signalled setup b) (presents s b) ≡ seen (is_signalled setup b') (presents s b')) where
    own-entry : has_own_reply e.kind ≡ true → is_session s e.actor ≡ true
    own-entry own =
        let no_frame : (is_begin e.kind ≡ false) × (is_finish e.kind ≡ false) = own-kind e.kind own in
        grind (arith, no_frame.0, no_frame.1)

    -- the replies that the law speaks of
    own-reply : has_own_reply e.kind ≡ true → e.reply ≡ r
    own-reply own =
        legal.reply
        ∙ (own-reply-same b b' same e.kind own (entry-owned setup b e legal s (own-entry own)) e.actor (own-entry own) e.calls
        ∙ sym legal'.reply)

    own-reply-at : (kind : EntryKind) → e.kind ≡ kind → has_own_reply kind ≡ true → e.reply ≡ r
    own-reply-at kind is own = own-reply (rw is own)

    closes-by : (kind : EntryKind) → e.kind ≡ kind → closes (reply_to setup b e.actor e.calls kind) ≡ closes (reply_to setup b' e.actor e.calls kind)
        → closes e.reply ≡ closes r
    closes-by kind is h =
        let one : closes e.reply ≡ closes (reply_to setup b e.actor e.calls kind) =
        ap closes (legal.reply) ∙ ap (λ (k : EntryKind). closes (reply_to setup b e.actor e.calls k)) is in
        let two : closes r ≡ closes (reply_to setup b' e.actor e.calls kind) =
        ap closes (legal'.reply) ∙ ap (λ (k : EntryKind). closes (reply_to setup b' e.actor e.calls k)) is in
        one ∙ (h ∙ sym two)

    closes-same : (kind : EntryKind) → e.kind ≡ kind → closes e.reply ≡ closes r
    closes-same (View p) is = ap closes (own-reply-at (View p) is refl)
    closes-same (Viewport p props) is = ap closes (own-reply-at (Viewport p props) is refl)
    closes-same (Present args) is = ap closes (own-reply-at (Present args) is refl)
    closes-same (Get get) is = ap closes (gets (rw is refl))
    closes-same (Wait c) is = closes-by (Wait c) is (closes-waited _ _ ∙ sym (closes-waited _ _))
    closes-same (Close None) is = closes-by (Close None) is refl
    closes-same (Close (Some reason)) is = closes-by (Close (Some reason)) is refl
    closes-same Poll is = closes-by Poll is refl
    closes-same (Signal f) is = closes-by (Signal f) is refl
    closes-same (End n) is = closes-by (End n) is refl
    closes-same (Begin time) is = closes-by (Begin time) is refl
    closes-same Finish is = closes-by Finish is refl
    closes-same (Hit x y) is = closes-by (Hit x y) is refl
    closes-same (Dpr ratio) is = closes-by (Dpr ratio) is refl

    step-shut : is_closed s (b ▹ e) ≡ is_closed s (b' ▹ with_reply e n r)
    step-shut = by_side (is_session s e.actor) refl
      where
        by_side : (v : Bool) → is_session s e.actor ≡ v → is_closed s (b ▹ e) ≡ is_closed s (b' ▹ with_reply e n r)
        by_side true mine = rw (mine, closes-same e.kind refl) (ap (λ (x : Bool). closes r || x) same.shut)
        by_side false other = rw other same.shut

    step-carried : calls s (b ▹ e) ≡ calls s (b' ▹ with_reply e n r)
    step-carried = by_side (is_session s e.actor) refl
      where
        by_side : (v : Bool) → is_session s e.actor ≡ v → calls s (b ▹ e) ≡ calls s (b' ▹ with_reply e n r)
        by_side true mine = rw mine (ap (λ (l : List Call). l ++ e.calls) same.carried)
        by_side false other = rw other same.carried

    published-same : (kind : EntryKind) → e.kind ≡ kind → (l : List Call) → published kind e.reply l ≡ published kind r l
    published-same (Present args) is l = ap (λ (x : Reply). published (Present args) x l) (own-reply-at (Present args) is refl)
    published-same _ is l = refl

    step-made : presents s (b ▹ e) ≡ presents s (b' ▹ with_reply e n r)
    step-made = by_side (is_session s e.actor) refl
      where
        joined : (x x' y y' : List Published) → x ≡ x' → y ≡ y' → (x ++ y) ≡ (x' ++ y')
        joined x x' y y' px py = cc

        by_side : (v : Bool) → is_session s e.actor ≡ v → presents s (b ▹ e) ≡ presents s (b' ▹ with_reply e n r)
        by_side true mine =
            let first : published e.kind e.reply (calls s b ++ e.calls) ≡ published e.kind r (calls s b ++ e.calls) =
            published-same e.kind refl (calls s b ++ e.calls) in
            let here : published e.kind e.reply (calls s b ++ e.calls) ≡ published e.kind r (calls s b' ++ e.calls) =
            first ∙ ap (λ (l : List Call). published e.kind r (l ++ e.calls)) same.carried in
            presents-own s b e mine ∙ (joined _ _ _ _ same.made here ∙ sym (presents-own s b' (with_reply e n r) mine))
        by_side false other = presents-other s b e other ∙ (same.made ∙ sym (presents-other s b' (with_reply e n r) other))

    step-took : taken setup (b ▹ e) s ≡ taken setup (b' ▹ with_reply e n r) s
    step-took =
        let now : takes e.kind (is_signalled setup b) (is_closed s b) (drop (taken setup b s) (presents s b))
        ≡ takes e.kind (is_signalled setup b') (is_closed s b') (drop (taken setup b' s) (presents s b')) =
        rw (same.shut, same.took, same.made)
        (takes-agree e.kind (is_signalled setup b) (is_signalled setup b') (is_closed s b') (taken setup b' s) (presents s b')
        (λ begins. ap (seen (is_signalled setup b)) (sym same.made) ∙ fences begins)) in
        rw (now, same.took) refl

    step-events : own_events setup s b e ≡ own_events setup s b' (with_reply e n r)
    step-events =
        let finish : cond (is_finish e.kind) (at_finish setup b s) [] ≡ cond (is_finish e.kind) (at_finish setup b' s) [] =
        ap (λ (l : List Event). cond (is_finish e.kind) l []) (finish-same b b' same) in
        let begin_ : at_begin setup b e s ≡ at_begin setup b' (with_reply e n r) s =
        same-credits _ _ _ _ _ _ _ _ same.took step-took (credits-same (b ▹ e) (b' ▹ with_reply e n r) step-made step-took)
        (credits-same b b' same.made same.took) in
        let begins : cond (is_begin e.kind) (at_begin setup b e s) [] ≡ cond (is_begin e.kind) (at_begin setup b' (with_reply e n r) s) [] =
        ap (λ (l : List Event). cond (is_begin e.kind) l []) begin_ in
        own-if _ _ _ _ step-shut
        (own-news b e ∙ (joined _ _ _ _ (ap (filter is_own_event) finish) (ap (filter is_own_event) begins) ∙ sym (own-news b' (with_reply e n r))))
      where
        joined : (x x' y y' : List Event) → x ≡ x' → y ≡ y' → (x ++ y) ≡ (x' ++ y')
        joined x x' y y' px py = cc

    -- the token of a pair comes back in both
    step-back : (p : PairNo) → owns_viewport setup s p ≡ true
        → list_any (λ sent. is_token_back p sent.event) (posted setup b e) ≡ list_any (λ sent. is_token_back p sent.event) (posted setup b' (with_reply e n r))
    step-back p mine = any-sent-same (is_token_back p) (events_to setup b e) (events_to setup b' (with_reply e n r))
        (λ t. by_owner t (owns_viewport setup t p) refl) (sessions_to setup.sessions)
      where
        by_owner : (t : SessionNo) (v : Bool) → owns_viewport setup t p ≡ v
            → list_any (is_token_back p) (events_to setup b e t) ≡ list_any (is_token_back p) (events_to setup b' (with_reply e n r) t)
        by_owner t true owns =
            let one : s ≡ t = one-viewport (viewport_owner setup p) s t mine owns in
            subst (λ (u : SessionNo). list_any (is_token_back p) (events_to setup b e u) ≡ list_any (is_token_back p) (events_to setup b' (with_reply e n r) u))
            one
            (token-is-own p (events_to setup b e s) ∙ (ap (list_any (is_token_back p)) step-events
            ∙ sym (token-is-own p (events_to setup b' (with_reply e n r) s))))
        by_owner t false other = token-elsewhere setup p t other b e ∙ sym (token-elsewhere setup p t other b' (with_reply e n r))

    used-view : (p : PairNo) (kind : EntryKind) → e.kind ≡ kind → (uses_view p kind && is_done e.reply) ≡ (uses_view p kind && is_done r)
    used-view p (View q) is = ap (λ (x : Reply). (q.0 == p.0) && is_done x) (own-reply-at (View q) is refl)
    used-view p _ is = refl

    used-viewport : (p : PairNo) (kind : EntryKind) → e.kind ≡ kind → (uses_viewport p kind && is_done e.reply) ≡ (uses_viewport p kind && is_done r)
    used-viewport p (Viewport q props) is = ap (λ (x : Reply). (q.0 == p.0) && is_done x) (own-reply-at (Viewport q props) is refl)
    used-viewport p _ is = refl

    outcome-same : outcome setup s b e ≡ outcome setup s b' (with_reply e n r)
    outcome-same =
        let reply : cond (has_own_reply e.kind) e.reply Done ≡ cond (has_own_reply e.kind) r Done = by_kind (has_own_reply e.kind) refl in
        λ i. record { reply = reply i; events = step-events i }
      where
        by_kind : (v : Bool) → has_own_reply e.kind ≡ v → cond v e.reply Done ≡ cond v r Done
        by_kind true own = own-reply own
        by_kind false other = refl

    pub step-same : Same (b ▹ e) (b' ▹ with_reply e n r)
    step-same = record {
      made = step-made;
      carried = step-carried;
      shut = step-shut;
      took = step-took;
      took_begin = begin_one (is_begin e.kind);
      took_begun = begin_two (is_begin e.kind);
      calls_begin = begin_three (is_begin e.kind);
      calls_begun = begin_four (is_begin e.kind);
      views = λ p mine. length-if (uses_view p e.kind && is_done e.reply) e (view_uses p b)
          ∙ (counted _ _ _ _ (used-view p e.kind refl) (same.views p mine)
          ∙ sym (length-if (uses_view p e.kind && is_done r) (with_reply e n r) (view_uses p b')));
      tokens = λ p mine. held _ _ _ _ _ _ (used-viewport p e.kind refl) (same.tokens p mine) (step-back p mine);
      results = rw beside (both _ _ _ _ outcome-same same.results);
    }
      where
        begin_one : (v : Bool) → taken setup (cond v (b ▹ e) (to_begin b)) s ≡ taken setup (cond v (b' ▹ with_reply e n r) (to_begin b')) s
        begin_one true = step-took
        begin_one false = same.took_begin

        begin_two : (v : Bool) → taken setup (drop 1 (cond v (b ▹ e) (to_begin b))) s ≡ taken setup (drop 1 (cond v (b' ▹ with_reply e n r) (to_begin b'))) s
        begin_two true = same.took
        begin_two false = same.took_begun

        begin_three : (v : Bool) → taken_calls setup (cond v (b ▹ e) (to_begin b)) s ≡ taken_calls setup (cond v (b' ▹ with_reply e n r) (to_begin b')) s
        begin_three true = taken-calls-same (b ▹ e) (b' ▹ with_reply e n r) step-made step-took
        begin_three false = same.calls_begin

        begin_four : (v : Bool) → taken_calls setup (drop 1 (cond v (b ▹ e) (to_begin b))) s
            ≡ taken_calls setup (drop 1 (cond v (b' ▹ with_reply e n r) (to_begin b'))) s
        begin_four true = taken-calls-same b b' same.made same.took
        begin_four false = same.calls_begun

        counted : (v v' : Bool) (m m' : ℕ) → v ≡ v' → m ≡ m' → cond v (suc m) m ≡ cond v' (suc m') m'
        counted v v' m m' pv pm = cc

        held : (x x' y y' z z' : Bool) → x ≡ x' → y ≡ y' → z ≡ z' → (not x && (y || z)) ≡ (not x' && (y' || z'))
        held x x' y y' z z' px py pz = cc

        both : (x x' : Outcome) (y y' : List Outcome) → x ≡ x' → y ≡ y' → (x ∷ y) ≡ (x' ∷ y')
        both x x' y y' px py = cc

  -- ---- two histories

  from-none : (h' : List Entry) → Legal setup h' → glimpses setup s [] ≡ glimpses setup s h' → Same [] h'
  from-none [] legal' same = record {
    made = refl;
    carried = refl;
    shut = refl;
    took = refl;
    took_begin = refl;
    took_begun = refl;
    calls_begin = refl;
    calls_begun = refl;
    views = λ p mine. refl;
    tokens = λ p mine. refl;
    results = refl;
  }
  from-none (h' ▹ e') legal' same = by_side (from-none h' legal'.0) (is_beside s e') refl same
    where
      by_side : (glimpses setup s [] ≡ glimpses setup s h' → Same [] h') → (v : Bool) → is_beside s e' ≡ v
          → [] ≡ cond v (glimpse setup s h' e' ∷ glimpses setup s h') (glimpses setup s h') → Same [] (h' ▹ e')
      by_side earlier true beside same = cc
      by_side earlier false out same = same-back (h' ▹ e') [] (quiet-left h' e' [] legal' out (same-back [] h' (earlier same)))

  -- one more entry of both
  both-more : (h : List Entry) (e : Entry) → Legal setup (h ▹ e) → (h' : List Entry) (e' : Entry) → Legal setup (h' ▹ e') → is_beside s e ≡ true
      → glimpse setup s h e ≡ glimpse setup s h' e' → Same h h' → Same (h ▹ e) (h' ▹ e')
  both-more h e legal h' e' legal' beside here same =
      let entry : but_answers e ≡ but_answers e' = ap (λ (g : Glimpse). g.entry) here in
      let actor : e.actor ≡ e'.actor = ap (λ (x : Entry). x.actor) entry in
      let carries : e.calls ≡ e'.calls = ap (λ (x : Entry). x.calls) entry in
      let kind : e.kind ≡ e'.kind = ap (λ (x : Entry). x.kind) entry in
      let answer : cond (is_get e.kind) e.reply Done ≡ cond (is_get e'.kind) e'.reply Done = ap (λ (x : Entry). x.reply) entry in
      let answer_here : cond (is_get e.kind) e.reply Done ≡ cond (is_get e.kind) e'.reply Done =
      answer ∙ ap (λ (k : EntryKind). cond (is_get k) e'.reply Done) (sym kind) in
      let fences : cond (is_begin e.kind) (seen (is_signalled setup h) (presents s h)) []
      ≡ cond (is_begin e'.kind) (seen (is_signalled setup h') (presents s h')) [] = ap (λ (g : Glimpse). g.signalled) here in
      let fences_here : cond (is_begin e.kind) (seen (is_signalled setup h) (presents s h)) []
      ≡ cond (is_begin e.kind) (seen (is_signalled setup h') (presents s h')) [] =
      fences ∙ ap (λ (k : EntryKind). cond (is_begin k) (seen (is_signalled setup h') (presents s h')) []) (sym kind) in
      let is : with_reply e e'.line e'.reply ≡ e' = same-entry (with_reply e e'.line e'.reply) e' actor refl carries kind refl in
      subst (λ (x : Entry). Same (h ▹ e) (h' ▹ x)) is
      (step-same h h' e e'.line e'.reply legal.1 (subst (λ (x : Entry). LegalEntry setup h' x) (sym is) legal'.1) same beside
      (λ gets. get_reply (is_get e.kind) gets answer_here)
      (λ begins. get_fences (is_begin e.kind) begins fences_here))
    where
      get_reply : (v : Bool) → v ≡ true → cond v e.reply Done ≡ cond v e'.reply Done → e.reply ≡ e'.reply
      get_reply true is h = h
      get_reply false is h = cc

      get_fences : (v : Bool) → v ≡ true → cond v (seen (is_signalled setup h) (presents s h)) [] ≡ cond v (seen (is_signalled setup h') (presents s h')) []
          → seen (is_signalled setup h) (presents s h) ≡ seen (is_signalled setup h') (presents s h')
      get_fences true is same = same
      get_fences false is same = cc

  from-one : (h : List Entry) (e : Entry) → Legal setup (h ▹ e) → is_beside s e ≡ true
      → ((h' : List Entry) → Legal setup h' → glimpses setup s h ≡ glimpses setup s h' → Same h h')
      → (h' : List Entry) → Legal setup h' → (glimpse setup s h e ∷ glimpses setup s h) ≡ glimpses setup s h' → Same (h ▹ e) h'
  from-one h e legal beside earlier [] legal' same = cc
  from-one h e legal beside earlier (h' ▹ e') legal' same = by_side (from-one h e legal beside earlier h' legal'.0) (is_beside s e') refl same
    where
      by_side : ((glimpse setup s h e ∷ glimpses setup s h) ≡ glimpses setup s h' → Same (h ▹ e) h') → (v : Bool) → is_beside s e' ≡ v
          → (glimpse setup s h e ∷ glimpses setup s h) ≡ cond v (glimpse setup s h' e' ∷ glimpses setup s h') (glimpses setup s h') → Same (h ▹ e) (h' ▹ e')
      by_side shorter true beside' same = both-more h e legal h' e' legal' beside (cc) (earlier h' legal'.0 (cc))
      by_side shorter false out same = same-back (h' ▹ e') (h ▹ e) (quiet-left h' e' (h ▹ e) legal' out (same-back (h ▹ e) h' (shorter same)))

  pub same-after : (h : List Entry) → Legal setup h → (h' : List Entry) → Legal setup h' → glimpses setup s h ≡ glimpses setup s h' → Same h h'
  same-after [] legal = from-none
  same-after (h ▹ e) legal = λ h' legal' same. by_side (same-after h legal.0) (is_beside s e) refl h' legal' same
    where
      by_side : ((h' : List Entry) → Legal setup h' → glimpses setup s h ≡ glimpses setup s h' → Same h h') → (v : Bool) → is_beside s e ≡ v
          → (h' : List Entry) → Legal setup h' → cond v (glimpse setup s h e ∷ glimpses setup s h) (glimpses setup s h) ≡ glimpses setup s h' → Same (h ▹ e) h'
      by_side earlier true beside h' legal' same = from-one h e legal beside earlier h' legal' same
      by_side earlier false out h' legal' same = quiet-left h e h' legal out (earlier h' legal' same)

  -- The neighbour law: where a session's entries, the answers to its gets, the frames and the signalled fences of its presents are the same,
  -- so are the replies to its View, Viewport and Present entries, and its events but for what watchers tell.
  pub neighbour-law : (h h' : List Entry) → Legal setup h → Legal setup h' → glimpses setup s h ≡ glimpses setup s h' → outcomes setup s h ≡ outcomes setup s h'
  neighbour-law h h' legal legal' same = (same-after h legal h' legal' same).results

  -- no other entry posts such an event
  pub neighbour-quiet : (before : List Entry) (e : Entry) → is_beside s e ≡ false → own_events setup s before e ≡ []
  neighbour-quiet before e out =
      let no_begin : is_begin e.kind ≡ false = grind arith in
      let no_finish : is_finish e.kind ≡ false = grind arith in
      by_open (is_closed s (before ▹ e)) (own-news before e ∙ (rw (no_begin, no_finish) refl))
    where
      by_open : (v : Bool) → filter is_own_event (news_for setup before e s) ≡ [] → filter is_own_event (cond v [] (news_for setup before e s)) ≡ []
      by_open true none = refl
      by_open false none = none

pub glimpses-decide-outcomes : GlimpsesDecideOutcomes
glimpses-decide-outcomes setup h h' legal legal' s same = neighbour-law setup s h h' legal legal' same

pub others-post-none : OthersPostNone
others-post-none setup s before e out = neighbour-quiet setup s before e out
