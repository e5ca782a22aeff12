-- A seat's own entries: found by its number, and what they tell.
use Rattle.std.proofs.Common.{◌≡◌, ◌∙◌, ◌≤◌, ◌<◌, Bool, true, false, cond, not, ◌&&◌, ◌||◌, ◌==◌, List, [], ◌∷◌, ◌++◌, filter, reverse, append-nil, refl, sym}
use Rattle.std.proofs.Common.{ap, subst, arith}
use Rattle.std.proofs.lemmas.Bool.Decides.{nat_tests}
use Rattle.std.proofs.lemmas.Grind.{reverse_onto}
use Rattle.std.proofs.lemmas.List.{reverse-append}
use Rattle.std.proofs.lemmas.List.Elements.{filter-append}
use Rattle.flat_base.proofs.lemmas.Tests.{and-left, and-right}
use Rattle.flat_base.specs.declared.ids.Actor.{Actor}
use Rattle.flat_base.specs.declared.ids.Actor.TheVariants.{Display, Session, Probe}
use Rattle.flat_base.specs.declared.ids.SessionNo.{SessionNo}
use Rattle.flat_base.specs.declared.limits.TheConstants.{SESSIONS_MAX}
use Rattle.flat_scene.specs.declared.calls.Call.{Call}
use Rattle.flat_scene.specs.declared.journal.Entry.{Entry}
use Rattle.flat_scene.specs.declared.journal.EntryKind.{EntryKind}
use Rattle.flat_scene.specs.declared.journal.EntryKind.TheVariants.{Close}
use Rattle.flat_scene.specs.declared.setup.Setup.{Setup}
use Rattle.flat_scene.specs.History.{◌▹◌, own, is_session, is_display, is_begin, is_finish}
use Rattle.flat_scene.specs.Journals.{seat_number, history_of}
use Rattle.flat_scene.specs.Setups.{is_declared}
use Rattle.flat_scene.proofs.lemmas.Steps.{own-kept}
use Rattle.flat_rules.proofs.lemmas.FrameKinds.{not-begin, not-finish}
use Rattle.flat_rules.specs.Ends.{to_begin}
use Rattle.flat_rules.specs.Legal.{Legal, has_draft, time_of, may_act, session_may}
use Rattle.flat_rules.specs.Seats.{of_display, SeatsTellActors, SessionsKnowThemselves, KnowsFrames, DisplayKnowsFrames, BeginStays, JournalsKeepSeats}
use Rattle.flat_rules.specs.Seats.{BeginIsSeen}

-- ---- numbers

-- filters by tests that agree on the entries of a legal history
filter-legal : (setup : Setup) (f g : Entry → Bool) → ((e : Entry) → may_act setup e.kind e.actor ≡ true → f e ≡ g e) → (history : List Entry)
    → Legal setup history → filter f history ≡ filter g history
filter-legal setup f g same [] legal = refl
filter-legal setup f g same (before ▹ e) legal =
    let one : f e ≡ g e = same e legal.1.may.acts in
    let rest : filter f before ≡ filter g before = filter-legal setup f g same before legal.0 in
    λ i. cond (one i) (e ∷ rest i) (rest i)

module _ (setup : Setup) (few : setup.sessions ≤ SESSIONS_MAX) where
  session-number : (s : SessionNo) → is_declared setup s ≡ true → (0 < s.0) × (s.0 ≤ 16)
  session-number s declared = (grind (arith, nat_tests), grind (arith, nat_tests))

  display-seat : (kind : EntryKind) (actor : Actor) → may_act setup kind actor ≡ true → is_display actor ≡ (seat_number actor == 0)
  display-seat kind Display acts = refl
  display-seat kind (Session t) acts = let some : 0 < t.0 =
      (session-number t (and-right (session_may kind) (is_declared setup t) acts)).0 in grind (arith, nat_tests)
  display-seat kind (Probe p) acts = absurd (let h : false ≡ true = acts in cc)

  session-seat : (s : SessionNo) → is_declared setup s ≡ true → (kind : EntryKind) (actor : Actor) → may_act setup kind actor ≡ true
      → is_session s actor ≡ (seat_number actor == s.0)
  session-seat s declared kind Display acts = let some : 0 < s.0 = (session-number s declared).0 in grind (arith, nat_tests)
  session-seat s declared kind (Session t) acts = refl
  session-seat s declared kind (Probe p) acts = absurd (let h : false ≡ true = acts in cc)

pub seats-tell-actors : SeatsTellActors
seats-tell-actors setup few history legal = record {
  display = filter-legal setup (λ e. is_display e.actor) (λ e. seat_number e.actor == 0) (λ e acts. display-seat setup few e.kind e.actor acts) history legal;
  sessions = λ s declared. filter-legal setup (λ e. is_session s e.actor) (λ e. seat_number e.actor == s.0)
      (λ e acts. session-seat setup few s declared e.kind e.actor acts) history legal;
}

-- ---- sessions

own-twice : (s : SessionNo) (history : List Entry) → own s (own s history) ≡ own s history
own-twice s history = own-kept s (λ e. is_session s e.actor) (λ e mine. mine) history

drafted-same : (setup : Setup) (history : List Entry) (s : SessionNo) (carries : List Call) (kind : EntryKind)
    → has_draft setup history (Session s) carries kind ≡ has_draft setup (own s history) (Session s) carries kind
drafted-same setup history s carries (Close reason) = rw (own-twice s history) refl
drafted-same setup history s carries _ = rw (own-twice s history) refl

pub sessions-know-themselves : SessionsKnowThemselves
sessions-know-themselves setup history s = record {
  closed = rw (own-twice s history) refl;
  lasts = λ kind. rw (own-twice s history) refl;
  draft = λ carries. rw (own-twice s history) refl;
  drafted = drafted-same setup history s;
}

-- ---- frames

-- an entry is the display's, or neither begins nor ends a frame
pub data WhoseEntry (entry : Entry) : Type 0 where
  ours : is_display entry.actor ≡ true → WhoseEntry entry
  theirs : is_display entry.actor ≡ false → is_begin entry.kind ≡ false → is_finish entry.kind ≡ false → WhoseEntry entry

whose : (setup : Setup) (entry : Entry) → may_act setup entry.kind entry.actor ≡ true → WhoseEntry entry
whose setup entry acts = by_actor entry.actor refl
  where
    by_actor : (actor : Actor) → entry.actor ≡ actor → WhoseEntry entry
    by_actor Display is = ours (ap is_display is)
    by_actor (Session s) is =
        let may : (session_may entry.kind && is_declared setup s) ≡ true = sym (ap (may_act setup entry.kind) is) ∙ acts in
        let kind : session_may entry.kind ≡ true = and-left (session_may entry.kind) (is_declared setup s) may in
        theirs (ap is_display is) (not-begin entry.kind kind) (not-finish entry.kind kind)
    by_actor (Probe p) is = absurd (let both : false ≡ true = sym (ap (may_act setup entry.kind) is) ∙ acts in cc)

frames-more : (before : List Entry) (entry : Entry) → WhoseEntry entry → KnowsFrames before → KnowsFrames (before ▹ entry)
frames-more before entry (ours is) known = record {
  frame = rw is (ap (λ b. is_begin entry.kind || (not (is_finish entry.kind) && b)) known.frame);
  time = rw is (ap (cond (is_begin entry.kind) (time_of entry.kind)) known.time);
}
frames-more before entry (theirs is begins finishes) known = record { frame = rw (is, begins, finishes) known.frame; time = rw (is, begins) known.time }

pub display-knows-frames : DisplayKnowsFrames
display-knows-frames setup [] legal = record { frame = refl; time = refl }
display-knows-frames setup (before ▹ entry) legal = frames-more before entry (whose setup entry legal.1.may.acts) (display-knows-frames setup before legal.0)

pub begin-stays : BeginStays
begin-stays setup [] before legal none = refl
begin-stays setup (later ▹ entry) before legal none = by_whose (λ rest. begin-stays setup later before legal.0 rest) (whose setup entry legal.1.may.acts)
  where
    by_whose : (of_display later ≡ [] → to_begin (later ++ before) ≡ to_begin before) → WhoseEntry entry
        → to_begin ((later ▹ entry) ++ before) ≡ to_begin before
    by_whose earlier (ours is) = absurd (let both : entry ∷ of_display later ≡ [] = sym (ap (λ b. cond b (entry ∷ of_display later) (of_display later)) is)
        ∙ none in cc)
    by_whose earlier (theirs is begins finishes) =
        let rest : of_display later ≡ [] = sym (ap (λ b. cond b (entry ∷ of_display later) (of_display later)) is) ∙ none in
        ap (λ b. cond b ((later ++ before) ▹ entry) (to_begin (later ++ before))) begins ∙ earlier rest

-- ---- journals

module _ {A : Type 0} where
  filter-one : (p : A → Bool) (x : A) (xs : List A) → reverse (filter p xs) ++ filter p (x ∷ []) ≡ reverse (filter p (x ∷ xs))
  filter-one p x xs = by_test (p x)
    where
      by_test : (b : Bool) → reverse (filter p xs) ++ cond b (x ∷ []) [] ≡ reverse (cond b (x ∷ filter p xs) (filter p xs))
      by_test true = sym (reverse_onto (filter p xs) x [])
      by_test false = append-nil (reverse (filter p xs))

  filter-reverse : (p : A → Bool) (xs : List A) → filter p (reverse xs) ≡ reverse (filter p xs)
  filter-reverse p [] = refl
  filter-reverse p (x ∷ xs) =
      ap (filter p) (reverse_onto xs x []) ∙ filter-append p (reverse xs) (x ∷ []) ∙ ap (λ (l : List A). l ++ filter p (x ∷ [])) (filter-reverse p xs)
      ∙ filter-one p x xs

pub journals-keep-seats : JournalsKeepSeats
journals-keep-seats seat entries = filter-reverse (λ e. seat_number e.actor == seat) entries

pub begin-is-seen : BeginIsSeen
begin-is-seen setup seen rest legal none =
    let parts : history_of (seen ++ rest) ≡ history_of rest ++ history_of seen = reverse-append seen rest in
    let L : List Entry → Type 0 = Legal setup in
    ap to_begin parts ∙ begin-stays setup (history_of rest) (history_of seen) (subst L parts legal)
    (filter-reverse (λ e. is_display e.actor) rest ∙ ap history_of none)
