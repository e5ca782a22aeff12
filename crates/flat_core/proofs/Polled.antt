-- What a poll counts and changes.
use Rattle.std.proofs.Common.{◌≡◌, ◌≢◌, ℕ, zero, suc, ◌+◌, ◌-◌, ◌<◌, ◌≤◌, Bool, true, false, List, [], ◌∷◌, ◌++◌, length, refl, arith, sym, ◌∙◌, ap, map, drop}
use Rattle.std.proofs.Common.{length-append, inl, inr, ◌⊎◌}
use Rattle.std.specs.Prelude.{cond, ◌&&◌, ◌==◌, flat_map}
use Rattle.std.proofs.Math.Seq.{drop-append_seam}
use Rattle.std.proofs.lemmas.Bool.Decides.{nat_tests, eqb_tells}
use Rattle.std.proofs.lemmas.List.{append-nil, map-append, drop-append-le}
use Rattle.std.proofs.lemmas.List.Elements.{filter-append}
use Rattle.flat_base.specs.declared.ids.Actor.TheVariants.{Session}
use Rattle.flat_base.specs.declared.ids.SessionNo.{SessionNo}
use Rattle.flat_scene.specs.declared.calls.Call.{Call}
use Rattle.flat_scene.specs.declared.journal.Entry.{Entry}
use Rattle.flat_scene.specs.declared.journal.Event.{Event}
use Rattle.flat_scene.specs.declared.journal.EntryKind.TheVariants.{Poll}
use Rattle.flat_scene.specs.declared.journal.PostedEvent.{PostedEvent}
use Rattle.flat_scene.specs.declared.journal.Reply.TheVariants.{Polled}
use Rattle.flat_scene.specs.declared.setup.Setup.{Setup}
use Rattle.flat_scene.specs.Frames.{sessions_to}
use Rattle.flat_scene.specs.History.{◌▹◌, is_session}
use Rattle.flat_states.specs.declared.state.SessionCounts.{SessionCounts}
use Rattle.flat_states.specs.declared.state.SessionState.{SessionState}
use Rattle.flat_facts.specs.Begins.{post_of, posts_to, entry_of}
use Rattle.flat_states.specs.Kept.{IsKept}
use Rattle.flat_rules.specs.Legal.{is_poll, unread, unread_events}
use Rattle.flat_core.specs.Polls.{events_for}
use Rattle.flat_rules.specs.Posts.{events_to}
use Rattle.flat_rules.specs.AllPosts.{posts}
use Rattle.flat_states.specs.Seen.{seen_of, account_of, polled_at}
use Rattle.flat_states.proofs.lemmas.BeginLoop.{flat-on}
use Rattle.flat_states.proofs.lemmas.BoardBegins.{posts-all}
use Rattle.flat_states.proofs.lemmas.Changes.{is-session, kept-account}
use Rattle.flat_rules.proofs.lemmas.Quiet.{closed-quiet, presents-quiet, taken-quiet, going-quiet, took-quiet}

-- the events of an entry that are a session's: of one session's, and of all sessions'
mine-or-none : (mine : Bool) (x : Event) (place : ℕ) (t s : SessionNo) (rest : List PostedEvent) → (t.0 == s.0) ≡ mine
    → events_for s (post_of place t x ∷ rest) ≡ cond mine (x ∷ events_for s rest) (events_for s rest)
mine-or-none true x place t s rest is = rw is refl
mine-or-none false x place t s rest is = rw is refl

of-one : (place : ℕ) (t s : SessionNo) (mine : Bool) (xs : List Event) → (t.0 == s.0) ≡ mine → events_for s (map (post_of place t) xs) ≡ cond mine xs []
of-one place t s true [] is = refl
of-one place t s false [] is = refl
of-one place t s true (x ∷ xs) is = mine-or-none true x place t s (map (post_of place t) xs) is ∙ ap (λ (ys : List Event). x ∷ ys) (of-one place t s true xs is)
of-one place t s false (x ∷ xs) is = mine-or-none false x place t s (map (post_of place t) xs) is ∙ of-one place t s false xs is

for-append : (s : SessionNo) (xs ys : List PostedEvent) → events_for s (xs ++ ys) ≡ events_for s xs ++ events_for s ys
for-append s xs ys = simp (filter-append, map-append)

-- the posts of an entry to the first sessions, with these events for each
abbrev sent_all : ℕ → (SessionNo → List Event) → ℕ → List PostedEvent
sent_all place f n = flat_map (λ t. map (post_of place t) (f t)) (sessions_to n)

sent-more : (place : ℕ) (f : SessionNo → List Event) (n : ℕ) (s : SessionNo)
    → events_for s (sent_all place f (suc n)) ≡ events_for s (sent_all place f n)
    ++ events_for s (map (post_of place (let t : SessionNo = record { 0 = suc n } in t)) (f (let t : SessionNo = record { 0 = suc n } in t)))
sent-more place f n s =
    let t : SessionNo = record { 0 = suc n } in
    let g : SessionNo → List PostedEvent = λ t. map (post_of place t) (f t) in
    ap (events_for s) (flat-on g (sessions_to n) t) ∙ for-append s (flat_map g (sessions_to n)) (g t)

sent-above : (place : ℕ) (f : SessionNo → List Event) (n : ℕ) (s : SessionNo) → n < s.0 → events_for s (sent_all place f n) ≡ []
sent-above place f zero s above = refl
sent-above place f (suc n) s above =
    let t : SessionNo = record { 0 = suc n } in
    let other : (suc n == s.0) ≡ false = grind (arith, nat_tests) in
    let less : n < s.0 = omega (arith, above) in
    let before : events_for s (sent_all place f n) ≡ [] = sent-above place f n s less in
    let last : events_for s (map (post_of place t) (f t)) ≡ [] = of-one place t s false (f t) other in
    sent-more place f n s ∙ rw (before, last) refl

by-last : (place : ℕ) (f : SessionNo → List Event) (n : ℕ) (s : SessionNo) → s.0 ≤ suc n → (s.0 ≤ n → events_for s (sent_all place f n) ≡ f s)
    → ((suc n == s.0) ≡ true) × (suc n ≡ s.0) ⊎ ((suc n == s.0) ≡ false) × (suc n ≢ s.0) → events_for s (sent_all place f (suc n)) ≡ f s
by-last place f n s few before (inl p) =
    let t : SessionNo = record { 0 = suc n } in
    let less : n < s.0 = omega (arith, p.1) in
    let none : events_for s (sent_all place f n) ≡ [] = sent-above place f n s less in
    let last : events_for s (map (post_of place t) (f t)) ≡ f t = of-one place t s true (f t) p.0 in
    let same : t ≡ s = ap (λ (k : ℕ). let r : SessionNo = record { 0 = k } in r) p.1 in
    sent-more place f n s ∙ ap (λ (xs : List Event). xs ++ events_for s (map (post_of place t) (f t))) none ∙ last ∙ ap f same
by-last place f n s few before (inr p) =
    let t : SessionNo = record { 0 = suc n } in
    let differ : suc n ≢ s.0 = p.1 in
    let less : s.0 ≤ n = omega (arith, few, differ) in
    let last : events_for s (map (post_of place t) (f t)) ≡ [] = of-one place t s false (f t) p.0 in
    sent-more place f n s ∙ ap (λ (xs : List Event). events_for s (sent_all place f n) ++ xs) last ∙ append-nil _ ∙ before less

-- those for a declared session are its own
sent-within : (place : ℕ) (f : SessionNo → List Event) (n : ℕ) (s : SessionNo) → 0 < s.0 → s.0 ≤ n → events_for s (sent_all place f n) ≡ f s
sent-within place f zero s some few = absurd (omega (arith, some, few))
sent-within place f (suc n) s some few = by-last place f n s few (λ less. sent-within place f n s some less) (eqb_tells (suc n) s.0)

polled-step : (polled : Bool) (old place new : ℕ) → old ≤ place → cond polled place old ≤ place + new
polled-step true old place new le = omega arith
polled-step false old place new le = omega (arith, le)

pub polled-le : (setup : Setup) (h : List Entry) (s : SessionNo) → polled_at setup h s ≤ length (posts setup h)
polled-le setup [] s = omega arith
polled-le setup (h ▹ e) s =
    rw length-append (polled-step (is_session s e.actor && is_poll e.kind) (polled_at setup h s) (length (posts setup h)) _ (polled-le setup h s))

unread-step : (s : SessionNo) (polled : Bool) (old : ℕ) (before more : List PostedEvent) (unread sent : List Event) → old ≤ length before
    → unread ≡ events_for s (drop old before) → events_for s more ≡ sent
    → cond polled [] unread ++ sent ≡ events_for s (drop (cond polled (length before) old) (before ++ more))
unread-step s true old before more unread sent le is here = rw (drop-append_seam, here) refl
unread-step s false old before more unread sent le is here = rw (drop-append-le old before more le, for-append s (drop old before) more, here, is) refl

-- what is unread are the session's posts from the place on at which its last poll ended
pub unread-posts : (setup : Setup) (h : List Entry) (s : SessionNo) → 0 < s.0 → s.0 ≤ setup.sessions
    → unread_events setup s h ≡ events_for s (drop (polled_at setup h s) (posts setup h))
unread-posts setup [] s some few = refl
unread-posts setup (h ▹ e) s some few =
    let more : List PostedEvent = posts_to setup h e setup.sessions in
    let sent : List Event = events_to setup h e s in
    let polled : Bool = is_session s e.actor && is_poll e.kind in
    unread-step s polled (polled_at setup h s) (posts setup h) more (unread_events setup s h) sent (polled-le setup h s) (unread-posts setup h s some few)
    (sent-within (length h) (events_to setup h e) setup.sessions s some few)
    ∙ ap (λ (ps : List PostedEvent). events_for s (drop (cond polled (length (posts setup h)) (polled_at setup h s)) ps)) (sym (posts-all setup h e))

pub seen-polled : (setup : Setup) (h : List Entry) (s : SessionNo) (line : ℕ) (carries : List Call) (n : ℕ)
    → seen_of setup (h ▹ entry_of (Session s) line carries Poll (Polled n)) s
    ≡ record (seen_of setup h s) { account = record (account_of setup h s) { polled = length (posts setup h) } }
seen-polled setup h s line carries n =
    let e : Entry = entry_of (Session s) line carries Poll (Polled n) in
    rw (
      closed-quiet h e s refl,
      presents-quiet h e s (λ made. refl),
      is-session s,
      taken-quiet setup h e s refl,
      going-quiet setup h e s refl,
      took-quiet setup h e s refl refl,
    ) refl

pub kept-polled : (setup : Setup) (h : List Entry) (s : SessionNo) (line : ℕ) (carries : List Call) (n place : ℕ) (state : SessionState)
    → place ≡ length (posts setup h) → IsKept setup (seen_of setup h s) state
    → IsKept setup (seen_of setup (h ▹ entry_of (Session s) line carries Poll (Polled n)) s)
    (record state { account = record state.account { polled = place } })
kept-polled setup h s line carries n place state same kept =
    rw (seen-polled setup h s line carries n, same)
    (kept-account setup (seen_of setup h s) state (λ (a : SessionCounts). let b : SessionCounts = record a { polled = length (posts setup h) } in b) (λ a. refl)
    kept)

pub handed-over : (setup : Setup) (h : List Entry) (s : SessionNo) (into list : List Event) (from : ℕ) (all : List PostedEvent) → 0 < s.0 → s.0 ≤ setup.sessions
    → list ≡ into ++ events_for s (drop from all) → from ≡ polled_at setup h s → all ≡ posts setup h → list ≡ into ++ unread_events setup s h
handed-over setup h s into list from all some few is place same =
    is ∙ ap (λ (n : ℕ). into ++ events_for s (drop n all)) place ∙ ap (λ (ps : List PostedEvent). into ++ events_for s (drop (polled_at setup h s) ps)) same
    ∙ ap (λ (es : List Event). into ++ es) (sym (unread-posts setup h s some few))

pub handed-count : (setup : Setup) (h : List Entry) (s : SessionNo) (into list : List Event) → list ≡ into ++ unread_events setup s h
    → length list - length into ≡ unread setup s h
handed-count setup h s into list is = omega (arith, ap length is, length-append into (unread_events setup s h))
