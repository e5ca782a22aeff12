-- What entries do to what is kept of all sessions' viewports.
use Rattle.std.proofs.Common.{◌≡◌, ◌∙◌, sym, ℕ, ◌+◌, ◌-◌, ◌<◌, Bool, true, false, List, [], ◌∷◌, length, refl, arith, ap, subst, All, slice_set, slice_index_or}
use Rattle.std.specs.Prelude.{IsTrue, Option, Some, None, option_map, unwrap_or, slice_get, ◌++◌, ◌&&◌, nat_lt, nat_le, sum_by}
use Rattle.std.specs.List.{list_any}
use Rattle.std.proofs.lemmas.Bool.Decides.{nat_tests}
use Rattle.std.proofs.lemmas.List.{get_or-set_same, length-set, length-map}
use Rattle.std.proofs.Math.Bool.{and-false}
use Rattle.std.proofs.lemmas.List.Folds.{list_any-append}
use Rattle.std.proofs.lemmas.List.Elements.{All-head, All-tail}
use Rattle.std.proofs.lemmas.List.Sums.{sum_by-cons}
use Rattle.flat_base.specs.declared.ids.Actor.{Actor}
use Rattle.flat_base.specs.declared.ids.Actor.TheVariants.{Display, Session, Probe}
use Rattle.flat_base.specs.declared.ids.PairNo.{PairNo}
use Rattle.flat_base.specs.declared.ids.SessionNo.{SessionNo}
use Rattle.flat_scene.specs.declared.calls.Call.{Call}
use Rattle.flat_scene.specs.declared.journal.Entry.{Entry}
use Rattle.flat_scene.specs.declared.calls.Call.TheVariants.{CreateView, CreateViewport}
use Rattle.flat_scene.specs.declared.journal.EntryKind.{EntryKind}
use Rattle.flat_scene.specs.declared.journal.EntryKind.TheVariants.{View, Viewport, Close}
use Rattle.flat_scene.specs.declared.journal.Reply.{Reply}
use Rattle.flat_scene.specs.declared.journal.Reply.TheVariants.{Closed}
use Rattle.flat_scene.specs.declared.setup.Setup.{Setup}
use Rattle.flat_scene.specs.History.{◌▹◌, closes, is_begin, is_closed, is_finish, is_session, presents}
use Rattle.flat_scene.specs.Setups.{is_declared}
use Rattle.flat_facts.specs.declared.live_viewport.LiveViewport.{LiveViewport}
use Rattle.flat_links.specs.declared.tokens.OutToken.{OutToken}
use Rattle.flat_states.specs.declared.frame_clock.FrameClock.{FrameClock}
use Rattle.flat_states.specs.declared.state.SessionCounts.{SessionCounts}
use Rattle.flat_states.specs.declared.state.SessionState.{SessionState}
use Rattle.flat_links.specs.declared.link_table.LinkTable.{LinkTable}
use Rattle.flat_links.specs.declared.viewports.Viewports.{Viewports}
use Rattle.flat_links.specs.AllEnds.{AreEnds, due_back, HasNone, IsNoted, IsOwn, EndsEntered}
use Rattle.flat_states.specs.Machines.{Machine, MayCall, Stands}
use Rattle.flat_facts.specs.Begins.{entry_of}
use Rattle.flat_rules.specs.Numbers.{number}
use Rattle.flat_rules.specs.Ends.{uses_viewport, is_done, viewports_of}
use Rattle.flat_states.specs.Kept.{IsKept}
use Rattle.flat_rules.specs.Legal.{Legal, all_but_last, is_link, links_alone, makes_view, own_call, reply_to}
use Rattle.flat_links.specs.SessionLinks.{AreLinked, UsesNone}
use Rattle.flat_facts.specs.Lives.{is_new_viewport}
use Rattle.flat_states.specs.Seen.{seen_of}
use Rattle.flat_facts.specs.Views.{last_view}
use Rattle.flat_links.specs.Viewports.{AreViewports, marked, out_of, outs_of}
use Rattle.flat_states.proofs.lemmas.Changes.{changed-one, not-session, is-session, sum-same}
use Rattle.flat_states.proofs.lemmas.Counts.{at-session, declared-some, kept-session, same-number}
use Rattle.flat_rules.proofs.lemmas.ListLemmas.{flat_map-none}
use Rattle.flat_states.proofs.lemmas.Ones.{declared-of}
use Rattle.flat_states.proofs.lemmas.Steps.{legal-entered}
use Rattle.flat_links.proofs.lemmas.LinksSteps.{tied-idle}
use Rattle.flat_facts.proofs.lemmas.ViewCalls.{split-last}
use Rattle.flat_links.proofs.ViewportSteps.{viewports-other, viewports-own}
use Rattle.std.proofs.lemmas.Bool.{not-true, or_parts}
use Rattle.flat_states.proofs.lemmas.Lists.{number-declared}

-- ---- lists

-- ---- a session that is closed

pub viewports-closed : (setup : Setup) (h : List Entry) (s : SessionNo) (live : List LiveViewport) (out : List OutToken) → is_closed s h ≡ true
    → AreViewports setup h s live out
viewports-closed setup h s live out closed = record {
  lives = λ opened. let wrong : true ≡ false = sym closed ∙ opened in absurd (cc);
  outs = λ opened. let wrong : true ≡ false = sym closed ∙ opened in absurd (cc);
}

-- ---- before any entry

no-outs : (setup : Setup) (s : SessionNo) → outs_of setup [] s ≡ []
no-outs setup s = flat_map-none (out_of setup [] s) (viewports_of setup s) (λ p. refl)

pub ends-new : (setup : Setup) (ends : List Viewports) → length ends ≡ setup.sessions → All HasNone ends → AreEnds setup [] ends
ends-new setup ends count none = record {
  count = count;
  each = λ i d below. record {
    lives = λ opened. (none i d below).live;
    outs = λ opened. (none i d below).out ∙ sym (no-outs setup (number i));
  };
}

pub back-new : (ends : List Viewports) → All HasNone ends → sum_by due_back ends ≡ 0
back-new [] none = refl
back-new (one ∷ ends) none =
    let here : HasNone one = All-head HasNone one ends none in
    let nothing : due_back one ≡ 0 = ap (length {A = OutToken}) here.out in
    sum_by-cons due_back one ends ∙ omega (arith, nothing, back-new ends (All-tail HasNone one ends none))

-- ---- entries

module _ (setup : Setup) (h : List Entry) (e : Entry) (legal : Legal setup (h ▹ e)) (no_finish : is_finish e.kind ≡ false) where
  -- where no session made it
  pub ends-other : (ends : List Viewports) → ((j : ℕ) → is_session (number j) e.actor ≡ false) → AreEnds setup h ends → AreEnds setup (h ▹ e) ends
  ends-other ends other old = record {
    count = old.count;
    each = λ i d below. viewports-other setup (number i) (number-declared setup i (length ends) old.count below) h e legal (other i) no_finish _ _
        (old.each i d below);
  }

  -- where a session made it, by what becomes of its own
  pub ends-one : (ends : List Viewports) (s : SessionNo) → e.actor ≡ Session s → is_declared setup s ≡ true → (before after : Viewports)
      → before ≡ slice_index_or ends (s.0 - 1) before
      → (AreViewports setup h s before.live.items before.out.items → AreViewports setup (h ▹ e) s after.live.items after.out.items)
      → AreEnds setup h ends → AreEnds setup (h ▹ e) (slice_set ends (s.0 - 1) after)
  ends-one ends s mine declared before after is step old =
      let here = declared-some s.0 setup.sessions declared in
      let some : 0 < s.0 = here.0 in
      let count : length ends ≡ setup.sessions = old.count in
      let own : AreViewports setup h s before.live.items before.out.items =
      at-session (λ t one. AreViewports setup h t one.live.items one.out.items) ends s before old.each some (omega (arith, here.1, count)) is in
      let P : SessionNo → Type 0 = λ t. AreViewports setup (h ▹ e) t after.live.items after.out.items in
      let now : AreViewports setup (h ▹ e) (number (s.0 - 1)) after.live.items after.out.items = subst P (sym (same-number s some)) (step own) in
      record {
        count = length-set ends (s.0 - 1) after ∙ old.count;
        each = λ i d below.
            changed-one (λ j one. (j < length ends) × AreViewports setup h (number j) one.live.items one.out.items)
            (λ j one. AreViewports setup (h ▹ e) (number j) one.live.items one.out.items) ends (s.0 - 1) after
            (λ j one other kept. viewports-other setup (number j) (number-declared setup j (length ends) old.count kept.0) h e legal
            (ap (is_session (number j)) mine ∙ not-session s j some other) no_finish _ _ kept.1)
            now (λ j x within. (within, old.each j x within)) i d below;
      }

  -- its calls are noted, where it uses no viewport end
  pub ends-noted : (ends : List Viewports) (s : SessionNo) → e.actor ≡ Session s → is_declared setup s ≡ true
      → ((p : PairNo) → (uses_viewport p e.kind && is_done e.reply) ≡ false)
      → (before after : Viewports) → before ≡ slice_index_or ends (s.0 - 1) before → (n : ℕ) → n ≡ length (presents s h) → IsNoted e.calls n before after
      → AreEnds setup h ends → AreEnds setup (h ▹ e) (slice_set ends (s.0 - 1) after)
  ends-noted ends s mine declared no_use before after is n counts noted old =
      ends-one ends s mine declared before after is
      (λ own.
      let step = viewports-own setup s declared h e legal (ap (is_session s) mine ∙ is-session s) no_finish (λ p owned. no_use p) before.live.items
      before.out.items own in
      rw (noted.live, noted.out, counts) step) old

-- what may come back, after such a note
pub back-noted : (ends : List Viewports) (place : ℕ) (before after : Viewports) → place < length ends → before ≡ slice_index_or ends place before
    → (calls : List Call) (n : ℕ) → IsNoted calls n before after
    → sum_by due_back (slice_set ends place after) ≡ sum_by due_back ends
back-noted ends place before after below is calls n noted =
    sum-same due_back ends place after before below is (ap (length {A = OutToken}) noted.out ∙ length-map before.out.items (marked before.live.items calls n))

-- ---- the calls of entries that use no viewport end

-- whether an entry of a kind may carry a call that makes a viewport
abbrev pub may_make : EntryKind → Bool
may_make (Viewport p props) = true
may_make (Close reason) = true
may_make _ = false

link-made : (call : Call) → is_link call ≡ false → is_new_viewport call ≡ false
link-made (CreateViewport c p w h inset) none = cc
link-made _ none = refl

pub links-made : (xs : List Call) → list_any is_link xs ≡ false → list_any is_new_viewport xs ≡ false
links-made [] none = refl
links-made (x ∷ xs) none =
    let two = or_parts (is_link x) (list_any is_link xs) none in
    rw (link-made x two.0, links-made xs two.1) refl

view-made : (p : PairNo) (call : Option Call) → makes_view p call ≡ true → (c : Call) → call ≡ Some c → is_new_viewport c ≡ false
view-made p None is c same = cc
view-made p (Some (CreateView q)) is c same = subst (λ (o : Option Call). unwrap_or (option_map is_new_viewport o) false ≡ false) same refl
view-made p (Some _) is c same = cc

last-view : (p : PairNo) (xs : List Call) (last : Option Call) → slice_get xs (length xs - 1) ≡ last → makes_view p last ≡ true
    → list_any is_link (all_but_last xs) ≡ false → list_any is_new_viewport xs ≡ false
last-view p xs None at is none = cc
last-view p xs (Some call) at is none =
    let split : xs ≡ all_but_last xs ++ call ∷ [] = split-last xs call at in
    let here : is_new_viewport call ≡ false = view-made p (Some call) is call refl in
    ap (list_any is_new_viewport) split ∙ list_any-append is_new_viewport (all_but_last xs) (call ∷ []) ∙ rw (links-made (all_but_last xs) none, here) refl

-- none of them makes one
pub none-new : (kind : EntryKind) (xs : List Call) → may_make kind ≡ false → links_alone kind xs ≡ true → own_call kind (slice_get xs (length xs - 1)) ≡ true
    → list_any is_new_viewport xs ≡ false
none-new (View p) xs quiet alone own = last-view p xs (slice_get xs (length xs - 1)) refl own (not-true _ alone)
none-new (Viewport p props) xs quiet alone own = cc
none-new (Close reason) xs quiet alone own = cc
none-new kind xs quiet alone own = links-made xs (not-true _ alone)

no-use : (kind : EntryKind) (reply : Reply) (p : PairNo) → may_make kind ≡ false → (uses_viewport p kind && is_done reply) ≡ false
no-use (Viewport q props) reply p quiet = cc
no-use kind reply p quiet = refl

-- an entry that closes its session uses no end
no-use-closing : (kind : EntryKind) (reply : Reply) (p : PairNo) → closes reply ≡ true → (uses_viewport p kind && is_done reply) ≡ false
no-use-closing kind (Closed error reason) p is = and-false (uses_viewport p kind)
no-use-closing kind _ p is = cc

none-used : (kind : EntryKind) (reply : Reply) (p : PairNo) → (closes reply ≡ false → may_make kind ≡ false) → (uses_viewport p kind && is_done reply) ≡ false
none-used kind reply p quiet = by_reply (closes reply) refl
  where
    by_reply : (b : Bool) → closes reply ≡ b → (uses_viewport p kind && is_done reply) ≡ false
    by_reply true shut = no-use-closing kind reply p shut
    by_reply false opened = no-use kind reply p (quiet opened)

-- What is kept of a session says whether it is closed, how many presents it made, and which view was its last.
pub record IsStood (s : SessionNo) (history : List Entry) (state : SessionState) : Type 0 where
  pub closed : state.closed ≡ is_closed s history
  pub counted : state.account.presents ≡ length (presents s history)
  pub viewed : state.account.view ≡ last_view s history

-- the same of the actor, where that is a session
abbrev pub IsStanding : Actor → List SessionState → List Entry → Type 0
IsStanding (Session s) states history = (state : SessionState) → state ≡ slice_index_or states (s.0 - 1) state → IsStood s history state
IsStanding who states history = Unit {0}

pub standing : (m : Machine) (who : Actor) (calls : List Call) (kind : EntryKind) → MayCall m who calls kind
    → (clock : FrameClock) (fences views : List Bool) (sessions : List SessionState) → Stands m.setup m.history clock fences views sessions
    → IsStanding who sessions m.history
standing m Display calls kind call clock fences views sessions old = tt
standing m (Probe p) calls kind call clock fences views sessions old = tt
standing m (Session s) calls kind call clock fences views sessions old = λ state is.
    let kept : IsKept m.setup (seen_of m.setup m.history s) state =
    kept-session m.setup m.history clock fences views sessions s state old (declared-of m.setup kind s call.may.acts) is in
    record { closed = kept.closed; counted = ap (λ (a : SessionCounts). a.presents) kept.account; viewed = ap (λ (a : SessionCounts). a.view) kept.account }

-- also where something else of that session was changed
pub standing-set : (s : SessionNo) (states : List SessionState) (history : List Entry) (state new : SessionState) → s.0 - 1 < length states
    → state ≡ slice_index_or states (s.0 - 1) state → new.closed ≡ state.closed → new.account.presents ≡ state.account.presents
    → new.account.view ≡ state.account.view
    → IsStanding (Session s) states history → IsStanding (Session s) (slice_set states (s.0 - 1) new) history
standing-set s states history state new below is closed counts views stands = λ one at.
    let same : one ≡ new = at ∙ get_or-set_same states (s.0 - 1) new one below in
    let stood = stands state is in
    record {
      closed = ap (λ (x : SessionState). x.closed) same ∙ closed ∙ stood.closed;
      counted = ap (λ (x : SessionState). x.account.presents) same ∙ counts ∙ stood.counted;
      viewed = ap (λ (x : SessionState). x.account.view) same ∙ views ∙ stood.viewed;
    }

-- all sessions' viewports after an entry that uses no viewport end, or closes its session
pub ends-after : (m : Machine) (who : Actor) (line : ℕ) (calls : List Call) (kind : EntryKind) (reply : Reply) → MayCall m who calls kind
    → reply ≡ reply_to m.setup m.history who calls kind
    → is_begin kind ≡ false → is_finish kind ≡ false → (closes reply ≡ false → may_make kind ≡ false) → Legal m.setup m.history
    → (states : List SessionState) (ends after : List Viewports) (tied now : LinkTable) → IsStanding who states m.history
    → EndsEntered (entry_of who line calls kind reply) states ends after tied now → AreEnds m.setup m.history ends
    → AreLinked m.setup m.history tied.linked_sessions.items tied.pairs.items
    → AreEnds m.setup (m.history ▹ entry_of who line calls kind reply) after × (sum_by due_back after ≡ sum_by due_back ends)
    × AreLinked m.setup (m.history ▹ entry_of who line calls kind reply) now.linked_sessions.items now.pairs.items
ends-after m Display line calls kind reply call replied no_begin no_finish quiet was states ends after tied now stands n are links =
    let e : Entry = entry_of Display line calls kind reply in
    let legal : Legal m.setup (m.history ▹ e) = (was, legal-entered m Display line calls kind reply call replied) in
    rw (n.0, n.1) (
      ends-other m.setup m.history e legal no_finish ends (λ j. refl) are,
      refl,
      tied-idle m.setup m.history e (record {
        legal = legal;
        no_begin = no_begin;
        no_finish = no_finish;
        no_use = λ p. none-used kind reply p quiet;
        shut = λ s mine. cc;
      }) tied.linked_sessions.items tied.pairs.items links,
    )
ends-after m (Probe p) line calls kind reply call replied no_begin no_finish quiet was states ends after tied now stands n are links =
    let e : Entry = entry_of (Probe p) line calls kind reply in
    let legal : Legal m.setup (m.history ▹ e) = (was, legal-entered m (Probe p) line calls kind reply call replied) in
    rw (n.0, n.1) (
      ends-other m.setup m.history e legal no_finish ends (λ j. refl) are,
      refl,
      tied-idle m.setup m.history e (record {
        legal = legal;
        no_begin = no_begin;
        no_finish = no_finish;
        no_use = λ p. none-used kind reply p quiet;
        shut = λ s mine. cc;
      }) tied.linked_sessions.items tied.pairs.items links,
    )
ends-after m (Session s) line calls kind reply call replied no_begin no_finish quiet was states ends after tied now stands n are links =
    let h : List Entry = m.history in
    let e : Entry = entry_of (Session s) line calls kind reply in
    let declared : IsTrue (is_declared m.setup s) = declared-of m.setup kind s call.may.acts in
    let here = declared-some s.0 m.setup.sessions declared in
    let count : length ends ≡ m.setup.sessions = are.count in
    let below : s.0 - 1 < length ends = omega (arith, here.0, here.1, count) in
    let stood = stands n.state n.of_state in
    let legal : Legal m.setup (h ▹ e) = (was, legal-entered m (Session s) line calls kind reply call replied) in
    let own : AreViewports m.setup h s n.before.live.items n.before.out.items =
    at-session (λ t one. AreViewports m.setup h t one.live.items one.out.items) ends s n.before are.each here.0 (omega (arith, here.1, count)) n.of_before in
    let made : IsOwn m.setup h e s calls n.state n.before = record {
      legal = legal;
      actor = refl;
      carried = refl;
      closed = stood.closed;
      counted = stood.counted;
      viewed = stood.viewed;
      living = own.lives;
      no_begin = no_begin;
      no_finish = no_finish;
    } in
    let uses : UsesNone e = λ p. none-used kind reply p quiet in
    let both = by_reply legal declared below stood.counted uses (closes reply) refl in
    rw n.new_is (both.0, both.1, n.links m.setup h e made uses links)
  where
    e : Entry
    e = entry_of (Session s) line calls kind reply

    by_reply : Legal m.setup (m.history ▹ e) → IsTrue (is_declared m.setup s) → s.0 - 1 < length ends → n.state.account.presents ≡ length (presents s m.history)
        → UsesNone e → (b : Bool) → closes reply ≡ b
        → AreEnds m.setup (m.history ▹ e) (slice_set ends (s.0 - 1) n.after) × (sum_by due_back (slice_set ends (s.0 - 1) n.after) ≡ sum_by due_back ends)
    by_reply legal declared below counts uses false opened = (
      ends-noted m.setup m.history e legal no_finish ends s refl declared uses n.before n.after n.of_before n.state.account.presents counts
          (n.heard.noted opened) are,
      back-noted ends (s.0 - 1) n.before n.after below n.of_before calls n.state.account.presents (n.heard.noted opened),
    )
    by_reply legal declared below counts uses true shut =
        let closed : is_closed s (m.history ▹ e) ≡ true = rw (is-session s, shut) refl in (
          ends-one m.setup m.history e legal no_finish ends s refl declared n.before n.after n.of_before
              (λ own. viewports-closed m.setup (m.history ▹ e) s n.after.live.items n.after.out.items closed) are,
          sum-same due_back ends (s.0 - 1) n.after n.before below n.of_before (ap due_back (n.heard.shut shut)),
        )

-- where what is kept of one session is replaced by the same
pub ends-same : (setup : Setup) (h : List Entry) (ends : List Viewports) (place : ℕ) (before after : Viewports) → before ≡ slice_index_or ends place before
    → place < length ends
    → after.live.items ≡ before.live.items → after.out.items ≡ before.out.items → AreEnds setup h ends
    → AreEnds setup h (slice_set ends place after) × (sum_by due_back (slice_set ends place after) ≡ sum_by due_back ends)
ends-same setup h ends place before after is below live out old = (
  record {
    count = length-set ends place after ∙ old.count;
    each =
        let P : ℕ → Viewports → Type 0 = λ i one. AreViewports setup h (number i) one.live.items one.out.items in
        let here : P place before = subst (P place) (sym is) (old.each place before below) in
        changed-one P P ends place after (λ j x other kept. kept) (rw (live, out) here) old.each;
  },
  sum-same due_back ends place after before below is (ap (length {A = OutToken}) out),
)
