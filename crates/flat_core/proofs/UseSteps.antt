-- A viewport, made or refused.
use Rattle.std.proofs.Common.{◌≡◌, ◌≢◌, ◌∙◌, sym, ℕ, ◌+◌, ◌-◌, ◌*◌, ◌<◌, ◌≤◌, Bool, true, false, List, [], ◌∷◌, length, refl, arith, ap, subst, None, slice_set}
use Rattle.std.proofs.Common.{slice_index_or, zero-add, inl, inr, ◌⊎◌}
use Rattle.std.specs.Prelude.{IsTrue, cond, not, ◌&&◌, ◌==◌, nat_le, nat_lt, Option, Some, option_map, unwrap_or, slice_get, sum_by}
use Rattle.std.specs.List.{list_any, list_all}
use Rattle.std.proofs.lemmas.Bool.Decides.{nat_tests}
use Rattle.std.proofs.lemmas.List.{length-set}
use Rattle.std.proofs.lemmas.List.Sums.{sum_by-set}
use Rattle.std.proofs.lemmas.Option.{get_or_from_slice_get, slice_get_cases, slice_get_within}
use Rattle.flat_base.specs.declared.ids.Actor.TheVariants.{Session}
use Rattle.flat_base.specs.declared.ids.PairNo.{PairNo}
use Rattle.flat_base.specs.declared.ids.SessionNo.{SessionNo}
use Rattle.flat_scene.specs.declared.calls.Call.{Call}
use Rattle.flat_scene.specs.declared.calls.Call.TheVariants.{CreateViewport}
use Rattle.flat_scene.specs.declared.calls.ViewportProps.{ViewportProps}
use Rattle.flat_scene.specs.declared.journal.Entry.{Entry}
use Rattle.flat_scene.specs.declared.journal.EntryKind.{EntryKind}
use Rattle.flat_scene.specs.declared.journal.EntryKind.TheVariants.{Viewport}
use Rattle.flat_scene.specs.declared.journal.Reply.{Reply}
use Rattle.flat_scene.specs.declared.journal.Reply.TheVariants.{Done}
use Rattle.flat_scene.specs.declared.setup.PairDecl.{PairDecl}
use Rattle.flat_scene.specs.declared.setup.Setup.{Setup}
use Rattle.flat_scene.specs.History.{◌▹◌, is_closed, is_session, presents}
use Rattle.flat_scene.specs.Setups.{is_declared}
use Rattle.flat_base.proofs.lemmas.Tests.{and-left, and-right}
use Rattle.flat_states.specs.declared.frame_clock.FrameClock.{FrameClock}
use Rattle.flat_links.specs.declared.tokens.OutToken.{OutToken}
use Rattle.flat_states.specs.declared.state.SessionCounts.{SessionCounts}
use Rattle.flat_states.specs.declared.state.SessionState.{SessionState}
use Rattle.flat_links.specs.declared.link_table.LinkTable.{LinkTable}
use Rattle.flat_links.specs.declared.viewports.Viewports.{Viewports}
use Rattle.flat_links.specs.AllEnds.{AreEnds, due_back, IsOwn, IsUsed, LinksUsed}
use Rattle.flat_states.specs.Machines.{HasRoom, Machine, MayCall, Stands, due}
use Rattle.flat_facts.specs.Begins.{entry_of}
use Rattle.flat_rules.specs.Numbers.{number, AllNumbered}
use Rattle.flat_rules.specs.Ends.{is_done, uses_viewport, viewports_of}
use Rattle.flat_states.specs.Kept.{IsKept}
use Rattle.flat_rules.specs.Legal.{Legal, all_but_last, goes_on, has_token, links_alone, makes_viewport, number_if, owns_in_call, owns_in_kind, owns_viewport}
use Rattle.flat_rules.specs.Legal.{own_call, refused_token, reply_to}
use Rattle.flat_facts.specs.Lives.{makes_one, uses_last, is_new_viewport}
use Rattle.flat_states.specs.Logs.{Logged}
use Rattle.flat_rules.specs.AllPosts.{posts}
use Rattle.flat_links.specs.SessionLinks.{AreLinked}
use Rattle.flat_states.specs.Presents.{use_reply}
use Rattle.flat_states.proofs.lemmas.Heard.{after_viewport}
use Rattle.flat_states.specs.Seen.{seen_of}
use Rattle.flat_links.specs.Viewports.{AreViewports, out_of, outs_of}
use Rattle.flat_gets.specs.Watchers.{IsJoin, is_shut}
use Rattle.flat_core.specs.PairValues.{TellsPairs}
use Rattle.flat_states.specs.declared.port.DisplayPort.{DisplayPort}
use Rattle.flat_states.specs.Ports.{port_of}
use Rattle.flat_core.proofs.DisplayRatios.{port-kept, ratios-kept}
use Rattle.flat_states.proofs.lemmas.Changes.{IsPlainOne, is-session, kept-closed, seen-closed, seen-plain}
use Rattle.flat_states.proofs.lemmas.Counts.{at-session, declared-some, kept-session, few-if}
use Rattle.flat_links.proofs.lemmas.EndSteps.{ends-one, links-made, viewports-closed}
use Rattle.flat_facts.proofs.lemmas.HasView.{found, any-found}
use Rattle.flat_states.proofs.lemmas.Ones.{declared-of, each-one}
use Rattle.flat_states.proofs.lemmas.Steps.{legal-entered, room-entered, stands-entered, unchanged}
use Rattle.flat_facts.proofs.lemmas.TokensBack.{any-flat, pair-is}
use Rattle.flat_links.proofs.lemmas.ViewportUses.{viewports-used}
use Rattle.std.proofs.lemmas.Bool.{not-true, and_right, and_parts}
use Rattle.std.specs.Cmp.{both_ways}
use Rattle.flat_facts.proofs.lemmas.Between.{viewport-nested}
use Rattle.std.proofs.Math.Bool.{or-false}
use Rattle.flat_rules.proofs.lemmas.AllOrSome.{any-same}

-- ---- the token

any-one : (p q : PairNo) (b : Bool) (released : Option ℕ)
    → list_any (λ (one : OutToken). one.pair.0 == p.0) (cond b [] ((record { pair = q; released = released }) ∷ [])) ≡ (not b && q.0 == p.0)
any-one p q true released = refl
any-one p q false released = or-false (q.0 == p.0)

module _ (setup : Setup) (h : List Entry) (s : SessionNo) (p : PairNo) where
  -- a token is out exactly where it is listed
  pub out-listed : owns_viewport setup s p ≡ true → list_any (λ (one : OutToken). one.pair.0 == p.0) (outs_of setup h s) ≡ not (has_token setup p h)
  out-listed owned =
      any-flat (λ (one : OutToken). one.pair.0 == p.0) (out_of setup h s) (viewports_of setup s)
      ∙ any-same _ _ (λ q. any-one p q (has_token setup q h) _) (viewports_of setup s)
      ∙ both_ways (list_any (λ q. not (has_token setup q h) && q.0 == p.0) (viewports_of setup s)) (not (has_token setup p h))
      (λ any.
      let one = found (λ q. not (has_token setup q h) && q.0 == p.0) (λ pair. is_session s pair.viewport) 0 setup.pairs any in
      let q : PairNo = record { 0 = 0 + one.0 } in
      let holds = and_parts (not (has_token setup q h)) (q.0 == p.0) one.2 in
      let same : q ≡ p = pair-is setup p (0 + one.0) holds.1 in
      ap (λ (r : PairNo). not (has_token setup r h)) (sym same) ∙ holds.0)
      (λ out.
      let itself : (p.0 == p.0) ≡ true = grind (arith, nat_tests) in
      let here : (not (has_token setup p h) && p.0 == p.0) ≡ true = rw (out, itself) refl in
      let F : ℕ → Type 0 = λ m. (let q : PairNo = record { 0 = m } in not (has_token setup q h) && q.0 == p.0) ≡ true in
      any-found (λ q. not (has_token setup q h) && q.0 == p.0) (λ pair. is_session s pair.viewport) 0 p.0 setup.pairs
      (viewport-nested s (slice_get setup.pairs p.0) ∙ owned) (subst F (sym (zero-add p.0)) here))

-- ---- what the rules ask of its entry

-- its session is open
pub opened-viewport : (h : List Entry) (s : SessionNo) (p : PairNo) (props : ViewportProps) → goes_on h (Viewport p props) (Session s) ≡ true
    → is_closed s h ≡ false
opened-viewport h s p props may = not-true (is_closed s h) (and-right _ _ may)

-- no call but the last makes one
pub others-none : (p : PairNo) (props : ViewportProps) (calls : List Call) → links_alone (Viewport p props) calls ≡ true
    → list_any is_new_viewport (all_but_last calls) ≡ false
others-none p props calls alone = links-made (all_but_last calls) (not-true _ alone)

made-one : (p : PairNo) (props : ViewportProps) (call : Option Call) → makes_viewport p props call ≡ true
    → unwrap_or (option_map (makes_one p) call) false ≡ true
made-one p props None is = cc
made-one p props (Some (CreateViewport c q w h inset)) is = and-left (q.0 == p.0) _ (and-left _ _ (and-left _ _ is))
made-one p props (Some _) is = cc

-- and the last does
pub last-uses : (p : PairNo) (props : ViewportProps) (calls : List Call) → own_call (Viewport p props) (slice_get calls (length calls - 1)) ≡ true
    → uses_last p calls ≡ true
last-uses p props calls own = made-one p props (slice_get calls (length calls - 1)) own

-- ---- whether a session is closed

slice_get_none : {A : Type 0} (xs : List A) (i : ℕ) → slice_get xs i ≡ None → length xs ≤ i
slice_get_none {A = A} xs i none = by_case (slice_get_cases xs i).1
  where
    by_case : ((x : A) × (i < length xs) × (slice_get xs i ≡ Some x) × (slice_index_or xs i x ≡ x)) ⊎ ((length xs ≤ i) × (slice_get xs i ≡ None))
        → length xs ≤ i
    by_case (inl found) = let wrong : Some found.0 ≡ None = sym found.2 ∙ none in cc
    by_case (inr and_right) = and_right.0

pub shut-known : (setup : Setup) (h : List Entry) (clock : FrameClock) (fences views : List Bool) (sessions : List SessionState) (t : SessionNo)
    → Stands setup h clock fences views sessions
    → (is_shut sessions t ≡ false → (is_declared setup t ≡ true) × (is_closed t h ≡ false))
    × (is_shut sessions t ≡ true → (is_declared setup t ≡ false) ⊎ (is_closed t h ≡ true))
shut-known setup h clock fences views sessions t old = by_place (t.0 == 0) refl (slice_get sessions (t.0 - 1)) refl
  where
    S : Bool → Option SessionState → Bool
    S zero_place o = cond zero_place true (unwrap_or (option_map (λ (state : SessionState). state.closed) o) true)

    by_place : (z : Bool) → (t.0 == 0) ≡ z → (o : Option SessionState) → slice_get sessions (t.0 - 1) ≡ o
        → (S z o ≡ false → (is_declared setup t ≡ true) × (is_closed t h ≡ false)) × (S z o ≡ true → (is_declared setup t ≡ false) ⊎ (is_closed t h ≡ true))
    by_place true first o at = (
      λ no. cc,
      λ shut. inl (let it : t.0 ≡ 0 = grind (arith, nat_tests) in
          let none : nat_lt 0 t.0 ≡ false = grind (arith, nat_tests) in rw none refl),
    )
    by_place false later None at = (
      λ no. cc,
      λ shut. inl (and_right (nat_lt 0 t.0) (nat_le t.0 setup.sessions) (few-none (slice_get_none sessions (t.0 - 1) at))),
    )
      where
        few-none : length sessions ≤ t.0 - 1 → nat_le t.0 setup.sessions ≡ false
        few-none and_right = let some : t.0 ≢ 0 = λ it. let wrong : (t.0 == 0) ≡ true = grind (arith, nat_tests) in let never : true ≡ false =
            sym wrong ∙ later in cc in let count : length sessions ≡ setup.sessions = old.count in let over : setup.sessions < t.0 =
            omega (arith, and_right, some, count) in grind (arith, nat_tests)
    by_place false later (Some state) at =
        let within : t.0 - 1 < length sessions = slice_get_within sessions (t.0 - 1) state at in
        let count : length sessions ≡ setup.sessions = old.count in
        let declared : is_declared setup t ≡ true = inside within count in
        let is : state ≡ slice_index_or sessions (t.0 - 1) state = sym (get_or_from_slice_get sessions (t.0 - 1) state state at) in
        let kept : IsKept setup (seen_of setup h t) state = kept-session setup h clock fences views sessions t state old declared is in
        (λ opened. (declared, sym kept.closed ∙ opened), λ shut. inr (sym kept.closed ∙ shut))
      where
        inside : t.0 - 1 < length sessions → length sessions ≡ setup.sessions → is_declared setup t ≡ true
        inside within count =
            let some : t.0 ≢ 0 = λ it. let wrong : (t.0 == 0) ≡ true = grind (arith, nat_tests) in let never : true ≡ false = sym wrong ∙ later in cc in
            let few : t.0 ≤ setup.sessions = omega (arith, within, count, some) in
            let above : 0 < t.0 = omega (arith, some) in
            let first : nat_lt 0 t.0 ≡ true = grind (arith, nat_tests) in
            let last : nat_le t.0 setup.sessions ≡ true = grind (arith, nat_tests) in
            rw (first, last) refl

-- ---- what is kept of its session

pub plain-viewport : (s : SessionNo) (line : ℕ) (calls : List Call) (p : PairNo) (props : ViewportProps) (reply : Reply)
    → IsPlainOne (entry_of (Session s) line calls (Viewport p props) reply)
plain-viewport s line calls p props reply = record { no_begin = refl; no_finish = refl; no_poll = refl; no_view = refl; none = λ made. refl }

pub viewport-kept : (setup : Setup) (h : List Entry) (s : SessionNo) (line : ℕ) (calls : List Call) (p : PairNo) (props : ViewportProps) (is_held : Bool)
    (state : SessionState) → IsKept setup (seen_of setup h s) state
    → IsKept setup (seen_of setup (h ▹ entry_of (Session s) line calls (Viewport p props) (use_reply is_held)) s) (after_viewport is_held state)
viewport-kept setup h s line calls p props true state kept =
    rw (seen-plain setup h (entry_of (Session s) line calls (Viewport p props) Done) s (plain-viewport s line calls p props Done) refl (is-session s)) kept
viewport-kept setup h s line calls p props false state kept =
    rw (seen-closed setup h (entry_of (Session s) line calls (Viewport p props) refused_token) s (plain-viewport s line calls p props refused_token) refl
    (is-session s))
    (kept-closed setup (seen_of setup h s) state kept)

viewport-due : (is_held : Bool) (state : SessionState) → due (after_viewport is_held state) ≡ due state
viewport-due true state = refl
viewport-due false state = refl

by-token : (is_held : Bool) → use_reply is_held ≡ cond is_held Done refused_token
by-token true = refl
by-token false = refl

other-pair : (p : PairNo) (props : ViewportProps) (q : PairNo) → q.0 ≢ p.0 → uses_viewport q (Viewport p props) ≡ false
other-pair p props q other = by_test (p.0 == q.0) refl
  where
    by_test : (b : Bool) → (p.0 == q.0) ≡ b → b ≡ false
    by_test true is = absurd (other (grind (arith, nat_tests)))
    by_test false is = refl

module _ (m : Machine) (s : SessionNo) (line : ℕ) (calls : List Call) (p : PairNo) (props : ViewportProps)
    (call : MayCall m (Session s) calls (Viewport p props)) where
  opened : is_closed s m.history ≡ false
  opened = opened-viewport m.history s p props call.may.lasts

  declared : IsTrue (is_declared m.setup s)
  declared = declared-of m.setup (Viewport p props) s call.may.acts

  owned : owns_viewport m.setup s p ≡ true
  owned = and-left (owns_in_kind m.setup s (Viewport p props)) (list_all (owns_in_call m.setup s) calls) call.may.owned

  -- whether the token is held
  pub held-told : (ends : List Viewports) (one : Viewports) → one ≡ slice_index_or ends (s.0 - 1) one → AreEnds m.setup m.history ends
      → (is_held : Bool) → is_held ≡ not (list_any (λ (out : OutToken). out.pair.0 == p.0) one.out.items) → is_held ≡ has_token m.setup p m.history
  held-told ends one is are is_held told =
      let here = declared-some s.0 m.setup.sessions declared in
      let count : length ends ≡ m.setup.sessions = are.count in
      let own : AreViewports m.setup m.history s one.live.items one.out.items =
      at-session (λ t x. AreViewports m.setup m.history t x.live.items x.out.items) ends s one are.each here.0 (omega (arith, here.1, count)) is in
      told ∙ ap (λ (outs : List OutToken). not (list_any (λ (out : OutToken). out.pair.0 == p.0) outs)) (own.outs opened)
      ∙ ap not (out-listed m.setup m.history s p owned) ∙ twice (has_token m.setup p m.history)
    where
      twice : (b : Bool) → not (not b) ≡ b
      twice true = refl
      twice false = refl

  pub replied : (is_held : Bool) → is_held ≡ has_token m.setup p m.history → use_reply is_held ≡ reply_to m.setup m.history (Session s) calls (Viewport p props)
  replied is_held is = by-token is_held ∙ ap (λ b. cond b Done refused_token) is

  -- its entry
  abbrev used_entry : Bool → Entry
  used_entry is_held = entry_of (Session s) line calls (Viewport p props) (use_reply is_held)

  -- all that is kept but the journal, after it
  pub kept-used : (is_held : Bool) → is_held ≡ has_token m.setup p m.history
      → (clock : FrameClock) (fences views : List Bool) (sessions : List SessionState) (ends : List Viewports) (state : SessionState) (before after : Viewports)
      → state ≡ slice_index_or sessions (s.0 - 1) state → before ≡ slice_index_or ends (s.0 - 1) before
      → Stands m.setup m.history clock fences views sessions → AreEnds m.setup m.history ends → IsUsed p calls state.account.presents is_held before after
      → (tied now : LinkTable) → AreLinked m.setup m.history tied.linked_sessions.items tied.pairs.items
      → LinksUsed s calls p props is_held state before tied now
      → Legal m.setup (m.history ▹ used_entry is_held)
      × Stands m.setup (m.history ▹ used_entry is_held) clock fences views (slice_set sessions (s.0 - 1) (after_viewport is_held state))
      × AreEnds m.setup (m.history ▹ used_entry is_held) (slice_set ends (s.0 - 1) after)
      × AreLinked m.setup (m.history ▹ used_entry is_held) now.linked_sessions.items now.pairs.items
      × ((told : ℕ) → sum_by due (slice_set sessions (s.0 - 1) (after_viewport is_held state)) + (sum_by due_back (slice_set ends (s.0 - 1) after) + told)
      ≡ sum_by due sessions + (sum_by due_back ends + told) + number_if is_held)
  kept-used is_held is clock fences views sessions ends state before after of_state of_before old are used tied now links uses =
      let h : List Entry = m.history in
      let kind : EntryKind = Viewport p props in
      let e : Entry = used_entry is_held in
      let new : SessionState = after_viewport is_held state in
      let says = replied is_held is in
      let legal : Legal m.setup (h ▹ e) = (old.legal, legal-entered m (Session s) line calls kind (use_reply is_held) call says) in
      let here = declared-some s.0 m.setup.sessions declared in
      let count : length sessions ≡ m.setup.sessions = old.count in
      let below : s.0 - 1 < length sessions = omega (arith, here.0, here.1, count) in
      let ends_count : length ends ≡ m.setup.sessions = are.count in
      let within : s.0 - 1 < length ends = omega (arith, here.0, here.1, ends_count) in
      let kept : IsKept m.setup (seen_of m.setup h s) state = kept-session m.setup h clock fences views sessions s state old declared of_state in
      let counts : state.account.presents ≡ length (presents s h) = ap (λ (a : SessionCounts). a.presents) kept.account in
      let sums = sum_by-set due sessions (s.0 - 1) new state below in
      let due_new : due new ≡ due state = viewport-due is_held state in
      let backs = sum_by-set due_back ends (s.0 - 1) after before within in
      let back_new : due_back after ≡ due_back before + number_if is_held = used.count in
      let each : AllNumbered (λ i. IsKept m.setup (seen_of m.setup (h ▹ e) (number i))) (slice_set sessions (s.0 - 1) new) =
      each-one m s line calls kind (use_reply is_held) call refl refl clock fences views sessions state new of_state old
      (λ k. viewport-kept m.setup h s line calls p props is_held state k) in
      let own : AreViewports m.setup h s before.live.items before.out.items =
      at-session (λ t x. AreViewports m.setup h t x.live.items x.out.items) ends s before are.each here.0 (omega (arith, here.1, ends_count)) of_before in
      let own_entry : IsOwn m.setup h e s calls state before =
      record {
        legal = legal;
        actor = refl;
        carried = refl;
        closed = kept.closed;
        counted = counts;
        viewed = ap (λ (a : SessionCounts). a.view) kept.account;
        living = own.lives;
        no_begin = refl;
        no_finish = refl;
      } in
      let all : AreEnds m.setup (h ▹ e) (slice_set ends (s.0 - 1) after) =
      ends-one m.setup h e legal refl ends s refl declared before after of_before (λ own. by_held is_held refl legal own counts) are in (
        legal,
        stands-entered m (Session s) line calls kind (use_reply is_held) call says refl refl clock fences fences views views sessions
            (slice_set sessions (s.0 - 1) new) old
            (unchanged m e fences views (λ sessions g f. refl) (λ p. refl)) (length-set sessions (s.0 - 1) new) each,
        all,
        uses m.setup h e own_entry opened refl refl links,
        λ told. omega (arith, sums, due_new, backs, back_new, ap due of_state, ap due_back of_before),
      )
    where
      by_held : (b : Bool) → is_held ≡ b → Legal m.setup (m.history ▹ entry_of (Session s) line calls (Viewport p props) (use_reply is_held))
          → AreViewports m.setup m.history s before.live.items before.out.items → state.account.presents ≡ length (presents s m.history)
          → AreViewports m.setup (m.history ▹ entry_of (Session s) line calls (Viewport p props) (use_reply is_held)) s after.live.items after.out.items
      by_held false none legal own counts =
          let closed : is_closed s (m.history ▹ entry_of (Session s) line calls (Viewport p props) (use_reply is_held)) ≡ true = rw (is-session s, none) refl in
          viewports-closed m.setup _ s _ _ closed
      by_held true some legal own counts =
          let itself : (p.0 == p.0) ≡ true = grind (arith, nat_tests) in
          let uses : (uses_viewport p (Viewport p props) && is_done (use_reply is_held)) ≡ true = rw (itself, some) refl in
          let step = viewports-used m.setup s declared m.history (entry_of (Session s) line calls (Viewport p props) (use_reply is_held)) legal (is-session s)
          refl p owned uses (other-pair p props) (sym is ∙ some) props call.may.calls
          before.live.items before.out.items own in
          rw (used.live some, used.out some, counts) step

  -- what pairs tell then
  pub telling-used : (is_held : Bool) (clock : FrameClock) (fences views : List Bool) (sessions : List SessionState) (port : DisplayPort) (now : LinkTable)
      → port ≡ port_of clock.ratios.finished m.setup → Stands m.setup m.history clock fences views sessions → Legal m.setup (m.history ▹ used_entry is_held)
      → AreLinked m.setup (m.history ▹ used_entry is_held) now.linked_sessions.items now.pairs.items
      → TellsPairs m.setup port now views m.setup (m.history ▹ used_entry is_held)
  telling-used is_held clock fences views sessions port now shows old legal tied =
      record {
        same = refl;
        shows = port-kept m.setup m.history clock.ratios port (ratios-kept m.setup m.history clock fences views sessions old) shows;
        legal = legal;
        tied = tied;
        viewed = old.viewed;
      }

  -- and who hears of it
  pub join-used : (is_held : Bool) (clock : FrameClock) (fences views : List Bool) (sessions : List SessionState) (pair : PairDecl)
      → Stands m.setup m.history clock fences views sessions → Legal m.setup (m.history ▹ used_entry is_held)
      → slice_get m.setup.pairs p.0 ≡ Some pair → IsJoin m.setup m.history (used_entry is_held) is_held pair.view (is_shut sessions pair.view) p
  join-used is_held clock fences views sessions pair old legal at =
      let known = shut-known m.setup m.history clock fences views sessions pair.view old in
      let itself : (pair.view.0 == pair.view.0) ≡ true = grind (arith, nat_tests) in
      record {
        legal = legal;
        props = props;
        kind = refl;
        replied = refl;
        owned = rw at itself;
        known = slice_get_within m.setup.pairs p.0 pair at;
        opened = known.0;
        closed = known.1;
      }

  -- the journal after it, where so many events were posted
  pub room-used : (is_held : Bool) (log then : Logged) (owed dues dues_now count : ℕ) → log.history ≡ m.history → HasRoom m.setup m.shares log owed dues
      → then.history ≡ (log.history ▹ used_entry is_held)
      → then.posts ≡ posts m.setup (m.history ▹ used_entry is_held) → length then.posts ≡ length log.posts + count → then.room + 1 ≡ log.room
      → then.post_room + count ≡ log.post_room → owed + 1 ≤ log.post_room
      → dues_now + count ≡ dues + number_if is_held → HasRoom m.setup m.shares then (owed + number_if is_held - count) dues_now
  room-used is_held log then owed dues dues_now count same room history posted longer spent used reserved owes =
      let small : length log.posts + owed ≤ 2 * length m.history = rw (← same) room.small in
      room-entered m (Session s) line calls (Viewport p props) (use_reply is_held) call log then
      owed (owed + number_if is_held - count) dues dues_now same room history posted spent
      (omega (arith, used, reserved, few-if is_held, owes, room.due)) (omega (arith, owes, room.due))
      (omega (arith, longer, small, few-if is_held, owes, room.due))
