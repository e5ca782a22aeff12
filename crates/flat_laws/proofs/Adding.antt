-- What the events posted to a session add up to.
use Rattle.std.proofs.Common.{◌≡◌, ◌∙◌, ap, refl, ℕ, zero, suc, ◌+◌, ◌-◌, ◌≤◌, Bool, true, false, List, [], ◌∷◌, ◌++◌, length, drop, arith, Option, Some, None}
use Rattle.std.specs.Prelude.{cond, filter, flat_map, replicate, nat_lt, ◌==◌}
use Rattle.std.specs.List.{sum_by}
use Rattle.std.proofs.lemmas.Bool.Decides.{nat_tests}
use Rattle.std.proofs.lemmas.Grind.{common_steps}
use Rattle.std.proofs.lemmas.List.{append-nil, length-drop}
use Rattle.std.proofs.lemmas.List.Elements.{filter-append}
use Rattle.std.proofs.lemmas.List.Sums.{sum_by-append, sum_by-cons}
use Rattle.flat_base.specs.declared.ids.PairNo.{PairNo}
use Rattle.flat_base.specs.declared.ids.SessionNo.{SessionNo}
use Rattle.flat_scene.specs.declared.calls.Call.{Call}
use Rattle.flat_scene.specs.declared.calls.Watch.{Watch}
use Rattle.flat_scene.specs.declared.journal.Entry.{Entry}
use Rattle.flat_scene.specs.declared.journal.Event.{Event}
use Rattle.flat_scene.specs.declared.journal.Event.TheVariants as event
use Rattle.flat_scene.specs.declared.journal.EntryKind.{EntryKind}
use Rattle.flat_scene.specs.declared.journal.EntryKind.TheVariants.{Begin, Finish}
use Rattle.flat_scene.specs.declared.journal.Reply.{Reply}
use Rattle.flat_scene.specs.declared.journal.WatcherValue.{WatcherValue}
use Rattle.flat_scene.specs.declared.setup.Setup.{Setup}
use Rattle.flat_scene.specs.Frames.{credits, taken}
use Rattle.flat_scene.specs.History.{◌▹◌, own, is_begin, is_closed, is_finish, is_session, presents, published}
use Rattle.flat_scene.proofs.lemmas.TakingLemmas.{taken-made}
use Rattle.flat_rules.specs.Ends.{to_begin, to_finished, views_of, viewports_of, viewport_uses}
use Rattle.flat_rules.specs.Laws.{CreditsAddUp}
use Rattle.flat_rules.specs.Legal.{Legal, is_frame_open, keeps_time}
use Rattle.flat_rules.specs.Posts.{at_begin, at_finish, event_of, frame_took, news_for, events_to, releases_seen, told_event, tokens_back, up_to}
use Rattle.flat_rules.specs.Watch.{layout_of, status_of, child_of}
use Rattle.flat_rules.proofs.lemmas.Quiet.{presents-quiet, taken-quiet}
use Rattle.flat_rules.proofs.lemmas.ShownSteps.{closed-before}
use Rattle.flat_facts.proofs.lemmas.Earlier.{taken-begun, taken-drop}
use Rattle.flat_laws.specs.Presents.{added_up, credited_by, is_presented, presented_by, presented_event, CreditsAreTold, PresentedAddUp, PresentedOnce}

-- ---- events that have no number

flat-zero : {X : Type 0} (f : Event → ℕ) (g : X → List Event) → ((x : X) → sum_by f (g x) ≡ 0) → (xs : List X) → sum_by f (flat_map g xs) ≡ 0
flat-zero f g none [] = refl
flat-zero f g none (x ∷ xs) = sum_by-append f (g x) (flat_map g xs) ∙ (λ i. none x i + flat-zero f g none xs i)

-- A number that neither answers of watchers nor tokens have.
record IsOther (f : Event → ℕ) : Type 0 where
  told : (p : PairNo) (get : Watch) (value : WatcherValue) → f (event.Told p get value) ≡ 0
  back : (p : PairNo) → f (event.TokenBack p) ≡ 0

module _ (f : Event → ℕ) (other : IsOther f) where
  answer-zero : (p : PairNo) (get : Option Watch) (value : Option WatcherValue) → sum_by f (event_of p get value) ≡ 0
  answer-zero p (Some get) (Some value) = omega (arith, other.told p get value)
  answer-zero p (Some get) None = refl
  answer-zero p None value = refl

  copies-zero : (p : PairNo) (n : ℕ) → sum_by f (replicate n (event.TokenBack p)) ≡ 0
  copies-zero p zero = refl
  copies-zero p (suc n) =
      let rest = copies-zero p n in
      let one = sum_by-cons f (event.TokenBack p) (replicate n (event.TokenBack p)) in
      let copies : replicate (suc n) (event.TokenBack p) ≡ event.TokenBack p ∷ replicate n (event.TokenBack p) = refl in
      ap (sum_by f) copies ∙ one ∙ omega (arith, other.back p, rest)

  tokens-zero : (setup : Setup) (before : List Entry) (s : SessionNo) → sum_by f (tokens_back setup before s) ≡ 0
  tokens-zero setup before s =
      flat-zero f (λ p. replicate (releases_seen setup (to_begin before) s p - releases_seen setup (drop 1 (to_begin before)) s p) (event.TokenBack p))
      (λ p. copies-zero p (releases_seen setup (to_begin before) s p - releases_seen setup (drop 1 (to_begin before)) s p)) (viewports_of setup s)

  five : (a b c d e : List Event) → sum_by f a ≡ 0 → sum_by f b ≡ 0 → sum_by f c ≡ 0 → sum_by f (a ++ b ++ c ++ d ++ e) ≡ sum_by f d + sum_by f e
  five a b c d e na nb nc =
      let whole = sum_by-append f (a ++ b ++ c ++ d) e in
      let four = sum_by-append f (a ++ b ++ c) d in
      let three = sum_by-append f (a ++ b) c in
      let two = sum_by-append f a b in
      omega (arith, whole, four, three, two, na, nb, nc)

  -- of an entry's news only the ends and the begins of frames count
  news-count : (setup : Setup) (before : List Entry) (e : Entry) (s : SessionNo)
      → sum_by f (news_for setup before e s)
      ≡ sum_by f (cond (is_finish e.kind) (at_finish setup before s) []) + sum_by f (cond (is_begin e.kind) (at_begin setup before e s) [])
  news-count setup before e s =
      five
      (flat_map (λ p. told_event setup p (layout_of p) before e) (views_of setup s))
      (flat_map (λ p. told_event setup p (status_of p) before e) (views_of setup s))
      (flat_map (λ p. flat_map (λ n. told_event setup p (child_of p n) before e) (up_to (length (viewport_uses p before)))) (viewports_of setup s))
      (cond (is_finish e.kind) (at_finish setup before s) [])
      (cond (is_begin e.kind) (at_begin setup before e s) [])
      (flat-zero f (λ p. told_event setup p (layout_of p) before e) (λ p. answer-zero p _ _) (views_of setup s))
      (flat-zero f (λ p. told_event setup p (status_of p) before e) (λ p. answer-zero p _ _) (views_of setup s))
      (flat-zero f (λ p. flat_map (λ n. told_event setup p (child_of p n) before e) (up_to (length (viewport_uses p before))))
      (λ p. flat-zero f (λ n. told_event setup p (child_of p n) before e) (λ n. answer-zero p _ _) (up_to (length (viewport_uses p before))))
      (viewports_of setup s))

-- an open session is sent all news
pub sent-open : (setup : Setup) (before : List Entry) (e : Entry) (s : SessionNo) → is_closed s (before ▹ e) ≡ false
    → events_to setup before e s ≡ news_for setup before e s
sent-open setup before e s opened = ap (λ b. cond b [] (news_for setup before e s)) opened

-- ---- presented

presented-other : IsOther presented_by
presented-other = record { told = λ p get value. refl; back = λ p. refl }

took-count : (n : ℕ) → sum_by presented_by (cond (nat_lt 0 n) (event.FramePresented n ∷ []) []) ≡ n
took-count n = by_some (nat_lt 0 n) refl
  where
    by_some : (b : Bool) → nat_lt 0 n ≡ b → sum_by presented_by (cond b (event.FramePresented n ∷ []) []) ≡ n
    by_some true some = omega arith
    by_some false none = let zero_then : n ≡ 0 = grind (arith, nat_tests) in omega (arith, zero_then)

finish-count : (setup : Setup) (before : List Entry) (s : SessionNo) → sum_by presented_by (at_finish setup before s) ≡ frame_took setup before s
finish-count setup before s =
    let n : ℕ = frame_took setup before s in
    let first = took-count n in
    let rest = tokens-zero presented_by presented-other setup before s in
    let both = sum_by-append presented_by (cond (nat_lt 0 n) (event.FramePresented n ∷ []) []) (tokens_back setup before s) in
    omega (arith, first, rest, both)

credits-unpresented : (b c : Bool) (n : ℕ) → sum_by presented_by (cond b (cond c (event.Credits n ∷ []) []) []) ≡ 0
credits-unpresented true true n = refl
credits-unpresented true false n = refl
credits-unpresented false c n = refl

pub opened-at-finish : (h : List Entry) (kind : EntryKind) → is_finish kind ≡ true → keeps_time h kind ≡ true → is_frame_open h ≡ true
opened-at-finish h Finish is keeps = keeps
opened-at-finish h _ is keeps = cc

pub presented-add-up : PresentedAddUp
presented-add-up setup [] legal s opened = refl
presented-add-up setup (h ▹ e) legal s opened =
    by_finish (presented-add-up setup h legal.0 s (closed-before (is_session s e.actor) e (own s h) opened)) (is_finish e.kind) refl
  where
    credits-part : sum_by presented_by (cond (is_begin e.kind) (at_begin setup h e s) []) ≡ 0
    credits-part = credits-unpresented (is_begin e.kind) _ _

    count : sum_by presented_by (events_to setup h e s)
        ≡ sum_by presented_by (cond (is_finish e.kind) (at_finish setup h s) []) + sum_by presented_by (cond (is_begin e.kind) (at_begin setup h e s) [])
    count = ap (sum_by presented_by) (sent-open setup h e s opened) ∙ news-count presented_by presented-other setup h e s

    by_finish : added_up setup presented_by s h ≡ taken setup (to_finished h) s → (b : Bool) → is_finish e.kind ≡ b
        → added_up setup presented_by s h + sum_by presented_by (events_to setup h e s) ≡ taken setup (cond b (to_begin h) (to_finished h)) s
    by_finish before false is =
        let none : sum_by presented_by (cond (is_finish e.kind) (at_finish setup h s) []) ≡ 0 =
        ap (λ b. sum_by presented_by (cond b (at_finish setup h s) [])) is in
        omega (arith, before, count, none, credits-part)
    by_finish before true is =
        let some : sum_by presented_by (cond (is_finish e.kind) (at_finish setup h s) []) ≡ frame_took setup h s =
        ap (λ b. sum_by presented_by (cond b (at_finish setup h s) [])) is ∙ finish-count setup h s in
        let was = taken-begun setup s h legal.0 (opened-at-finish h e.kind is legal.1.may.times) in
        let rises = taken-drop setup s (to_begin h) in
        omega (arith, before, count, some, credits-part, was, rises)

-- ---- the events themselves

abbrev kept : List Event → List Event
kept = filter is_presented

flat-kept : {X : Type 0} (g : X → List Event) → ((x : X) → kept (g x) ≡ []) → (xs : List X) → kept (flat_map g xs) ≡ []
flat-kept g none [] = refl
flat-kept g none (x ∷ xs) = filter-append is_presented (g x) (flat_map g xs) ∙ (λ i. none x i ++ flat-kept g none xs i)

answer-kept : (p : PairNo) (get : Option Watch) (value : Option WatcherValue) → kept (event_of p get value) ≡ []
answer-kept p (Some get) (Some value) = refl
answer-kept p (Some get) None = refl
answer-kept p None value = refl

copies-kept : (p : PairNo) (n : ℕ) → kept (replicate n (event.TokenBack p)) ≡ []
copies-kept p zero = refl
copies-kept p (suc n) = copies-kept p n

tokens-kept : (setup : Setup) (before : List Entry) (s : SessionNo) → kept (tokens_back setup before s) ≡ []
tokens-kept setup before s =
    flat-kept (λ p. replicate (releases_seen setup (to_begin before) s p - releases_seen setup (drop 1 (to_begin before)) s p) (event.TokenBack p))
    (λ p. copies-kept p (releases_seen setup (to_begin before) s p - releases_seen setup (drop 1 (to_begin before)) s p)) (viewports_of setup s)

five-kept : (a b c d e : List Event) → kept a ≡ [] → kept b ≡ [] → kept c ≡ [] → kept e ≡ [] → kept (a ++ b ++ c ++ d ++ e) ≡ kept d
five-kept a b c d e na nb nc ne =
    filter-append is_presented (a ++ b ++ c ++ d) e
    ∙ ap (λ x. x ++ kept e) (filter-append is_presented (a ++ b ++ c) d
    ∙ ap (λ x. x ++ kept d) (filter-append is_presented (a ++ b) c ∙ ap (λ x. x ++ kept c) (filter-append is_presented a b)))
    ∙ (λ i. ((na i ++ nb i) ++ nc i) ++ kept d ++ ne i)
    ∙ append-nil (kept d)

credits-kept : (b c : Bool) (n : ℕ) → kept (cond b (cond c (event.Credits n ∷ []) []) []) ≡ []
credits-kept true true n = refl
credits-kept true false n = refl
credits-kept false c n = refl

took-kept : (b : Bool) (n : ℕ) → kept (cond b (event.FramePresented n ∷ []) []) ≡ cond b (event.FramePresented n ∷ []) []
took-kept true n = refl
took-kept false n = refl

news-kept : (setup : Setup) (before : List Entry) (e : Entry) (s : SessionNo)
    → kept (news_for setup before e s) ≡ cond (is_finish e.kind) (presented_event (frame_took setup before s)) []
news-kept setup before e s =
    five-kept
    (flat_map (λ p. told_event setup p (layout_of p) before e) (views_of setup s))
    (flat_map (λ p. told_event setup p (status_of p) before e) (views_of setup s))
    (flat_map (λ p. flat_map (λ n. told_event setup p (child_of p n) before e) (up_to (length (viewport_uses p before)))) (viewports_of setup s))
    (cond (is_finish e.kind) (at_finish setup before s) [])
    (cond (is_begin e.kind) (at_begin setup before e s) [])
    (flat-kept (λ p. told_event setup p (layout_of p) before e) (λ p. answer-kept p _ _) (views_of setup s))
    (flat-kept (λ p. told_event setup p (status_of p) before e) (λ p. answer-kept p _ _) (views_of setup s))
    (flat-kept (λ p. flat_map (λ n. told_event setup p (child_of p n) before e) (up_to (length (viewport_uses p before))))
    (λ p. flat-kept (λ n. told_event setup p (child_of p n) before e) (λ n. answer-kept p _ _) (up_to (length (viewport_uses p before))))
    (viewports_of setup s))
    (credits-kept (is_begin e.kind) _ _)
    ∙ by_finish (is_finish e.kind)
  where
    took : kept (at_finish setup before s) ≡ presented_event (frame_took setup before s)
    took =
        filter-append is_presented (presented_event (frame_took setup before s)) (tokens_back setup before s)
        ∙ (λ i. took-kept (nat_lt 0 (frame_took setup before s)) (frame_took setup before s) i ++ tokens-kept setup before s i)
        ∙ append-nil (presented_event (frame_took setup before s))

    by_finish : (b : Bool) → kept (cond b (at_finish setup before s) []) ≡ cond b (presented_event (frame_took setup before s)) []
    by_finish true = took
    by_finish false = refl

pub presented-once : PresentedOnce
presented-once setup before e legal s opened =
    ap kept (sent-open setup before e s opened) ∙ news-kept setup before e s ∙ by_finish (is_finish e.kind) refl
  where
    by_finish : (b : Bool) → is_finish e.kind ≡ b → cond b (presented_event (frame_took setup before s)) []
        ≡ cond b (presented_event (taken setup (to_begin before) s - taken setup (to_finished before) s)) []
    by_finish true is =
        let was = taken-begun setup s before legal.0 (opened-at-finish before e.kind is legal.1.may.times) in
        ap (λ n. presented_event (taken setup (to_begin before) s - n)) was
    by_finish false is = refl

-- ---- credits

credited-other : IsOther credited_by
credited-other = record { told = λ p get value. refl; back = λ p. refl }

presented-uncredited : (b c : Bool) (n : ℕ) (rest : List Event) → sum_by credited_by rest ≡ 0
    → sum_by credited_by (cond b (cond c (event.FramePresented n ∷ []) [] ++ rest) []) ≡ 0
presented-uncredited true true n rest none = none
presented-uncredited true false n rest none = none
presented-uncredited false c n rest none = refl

-- credits and presents made are decided by how many were taken
abbrev most : ℕ → ℕ
most n = cond (n == 0) 1 5

made-and-left : CreditsAddUp → (setup : Setup) (h : List Entry) → Legal setup h → (s : SessionNo)
    → credits setup h s + length (presents s h) ≡ most (taken setup h s) + taken setup h s
made-and-left law setup h legal s =
    let adds = law setup h legal s in
    let few = taken-made setup s h in
    let wait = length-drop (taken setup h s) (presents s h) in
    omega (arith, adds, few, wait)

most-rises : (a b : ℕ) → a ≤ b → most a ≤ most b
most-rises a b less = grind (arith, common_steps)

begin-publishes-none : (kind : EntryKind) (reply : Reply) (made : List Call) → is_begin kind ≡ true → published kind reply made ≡ []
begin-publishes-none (Begin time) reply made is = refl
begin-publishes-none _ reply made is = absurd (let wrong : false ≡ true = is in cc)

gained : (t t' c c' m : ℕ) → t ≤ t' → c + m ≡ most t + t → c' + m ≡ most t' + t'
    → c + sum_by credited_by (cond (nat_lt t t') (event.Credits (c' - c) ∷ []) []) ≡ c'
gained t t' c c' m rises was is = by_more (nat_lt t t') refl
  where
    most-more : most t ≤ most t'
    most-more = most-rises t t' rises

    by_more : (b : Bool) → nat_lt t t' ≡ b → c + sum_by credited_by (cond b (event.Credits (c' - c) ∷ []) []) ≡ c'
    by_more true more = omega (arith, rises, was, is, most-more)
    by_more false none =
        let same : t ≡ t' = grind (arith, nat_tests) in
        let all : most t ≡ most t' = ap most same in
        omega (arith, same, all, was, is)

pub credits-are-told : CreditsAddUp → CreditsAreTold
credits-are-told law setup [] legal s opened = refl
credits-are-told law setup (h ▹ e) legal s opened =
    by_begin (credits-are-told law setup h legal.0 s (closed-before (is_session s e.actor) e (own s h) opened)) (is_begin e.kind) refl
  where
    was : credits setup h s + length (presents s h) ≡ most (taken setup h s) + taken setup h s
    was = made-and-left law setup h legal.0 s

    now : credits setup (h ▹ e) s + length (presents s (h ▹ e)) ≡ most (taken setup (h ▹ e) s) + taken setup (h ▹ e) s
    now = made-and-left law setup (h ▹ e) legal s

    presented-part : sum_by credited_by (cond (is_finish e.kind) (at_finish setup h s) []) ≡ 0
    presented-part = presented-uncredited (is_finish e.kind) _ _ (tokens_back setup h s) (tokens-zero credited_by credited-other setup h s)

    count : sum_by credited_by (events_to setup h e s)
        ≡ sum_by credited_by (cond (is_finish e.kind) (at_finish setup h s) []) + sum_by credited_by (cond (is_begin e.kind) (at_begin setup h e s) [])
    count = ap (sum_by credited_by) (sent-open setup h e s opened) ∙ news-count credited_by credited-other setup h e s

    by_begin : credits setup h s + length (presents s h) ≡ 1 + added_up setup credited_by s h → (b : Bool) → is_begin e.kind ≡ b
        → credits setup (h ▹ e) s + length (presents s (h ▹ e)) ≡ 1 + (added_up setup credited_by s h + sum_by credited_by (events_to setup h e s))
    by_begin before false is =
        let none : sum_by credited_by (cond (is_begin e.kind) (at_begin setup h e s) []) ≡ 0 =
        ap (λ b. sum_by credited_by (cond b (at_begin setup h e s) [])) is in
        let same : taken setup (h ▹ e) s ≡ taken setup h s = taken-quiet setup h e s is in
        let all : most (taken setup (h ▹ e) s) ≡ most (taken setup h s) = ap most same in
        let c : ℕ = credits setup (h ▹ e) s in
        omega (arith, before, was, now, count, none, presented-part, same, all)
    by_begin before true is =
        let made : presents s (h ▹ e) ≡ presents s h = presents-quiet h e s (λ made. begin-publishes-none e.kind e.reply made is) in
        let few : length (presents s (h ▹ e)) ≡ length (presents s h) = ap length made in
        let some : sum_by credited_by (cond (is_begin e.kind) (at_begin setup h e s) []) ≡ sum_by credited_by (at_begin setup h e s) =
        ap (λ b. sum_by credited_by (cond b (at_begin setup h e s) [])) is in
        let rises : taken setup h s ≤ taken setup (h ▹ e) s = omega arith in
        let more = gained (taken setup h s) (taken setup (h ▹ e) s) (credits setup h s) (credits setup (h ▹ e) s) (length (presents s h)) rises was
        (omega (arith, now, few)) in
        omega (arith, before, count, some, presented-part, more, few)
