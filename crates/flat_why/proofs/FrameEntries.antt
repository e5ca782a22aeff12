-- The begin and the end of a frame, in what is kept.
use Rattle.std.proofs.Common.{ℕ, zero, suc, ◌+◌, ◌-◌, ◌<◌, ◌≤◌, ◌≡◌, refl, sym, ap, ◌∙◌, subst, true, false, not, ◌&&◌, ◌||◌, cond, nat_le, nat_lt, List, []}
use Rattle.std.proofs.Common.{◌∷◌, ◌++◌, length, filter, map, Option, Some, None, slice_get, arith, append-nil}
use Rattle.std.specs.Prelude.{option_map}
use Rattle.std.specs.List.{All}
use Rattle.std.proofs.lemmas.List.{map-append}
use Rattle.std.proofs.lemmas.Option.{slice_get_within}
use Rattle.std.proofs.lemmas.Bool.Decides.{nat_tests}
use Rattle.std.proofs.lemmas.Grind.{flat_map-append}
use Rattle.flat_base.proofs.lemmas.Tests.{and-true}
use Rattle.flat_base.specs.Last.{last_item}
use Rattle.flat_base.specs.declared.ids.Actor.{Actor}
use Rattle.flat_base.specs.declared.ids.Actor.TheVariants.{Display, Session, Probe}
use Rattle.flat_base.specs.declared.ids.PairNo.{PairNo}
use Rattle.flat_base.specs.declared.ids.SessionNo.{SessionNo}
use Rattle.flat_page.specs.Pages.{WritesLines}
use Rattle.flat_page.specs.Words.{line_of, text_of}
use Rattle.flat_page.proofs.lemmas.LastItems.{last-more}
use Rattle.flat_page.proofs.lemmas.PageLemmas.{same_lines, then_lines}
use Rattle.flat_places.specs.declared.script.Script.{Script}
use Rattle.flat_report.specs.Report.{finished, frame_at}
use Rattle.flat_scene.specs.declared.frames.FrameOut.{FrameOut}
use Rattle.flat_scene.specs.declared.journal.Entry.{Entry}
use Rattle.flat_scene.specs.declared.journal.EntryKind.TheVariants.{Begin, Finish}
use Rattle.flat_scene.specs.declared.journal.Reply.{Reply}
use Rattle.flat_scene.specs.declared.setup.PairDecl.{PairDecl}
use Rattle.flat_scene.specs.declared.setup.Setup.{Setup}
use Rattle.flat_scene.specs.declared.trees.Tree.{Tree}
use Rattle.flat_scene.specs.Frames.{ratio, sessions_to, setup_at, taken}
use Rattle.flat_scene.specs.History.{◌▹◌, is_begin, is_finish, is_session}
use Rattle.flat_scene.specs.Setups.{at_ratio, is_declared}
use Rattle.flat_scene.specs.Heads.{owners_declared}
use Rattle.flat_rules.specs.Ends.{to_begin}
use Rattle.flat_rules.specs.Legal.{LegalEntry, frames, is_frame_open, keeps_time, may_act}
use Rattle.flat_rules.specs.Shown.{is_pair, shown_states}
use Rattle.flat_rules.proofs.lemmas.ShownList.{listed-at}
use Rattle.flat_topology.specs.Shown.{is_shown_by, Shown, state_of}
use Rattle.flat_topology.specs.Place.{placed_nodes}
use Rattle.flat_why.specs.declared.reasons.DetachedReason.{DetachedReason}
use Rattle.flat_why.specs.declared.reasons.DetachedReason.TheVariants.{Parted}
use Rattle.flat_why.specs.declared.reasons.HiddenReason.{HiddenReason}
use Rattle.flat_why.specs.declared.reasons.AttachPoint.TheVariants.{OnDisplay, Below, Nowhere}
use Rattle.flat_why.specs.declared.reason_tracker.ReasonTracker.{ReasonTracker}
use Rattle.flat_why.specs.Blanks.{blank_of}
use Rattle.flat_why.specs.Reasons.{closing_of, dues, dues_by, first_of, hanging_by, is_waiting, last_use, made_by, nothing_by, parting_of, standing_by}
use Rattle.flat_why.specs.Reasons.{standing_in, standing_of, used_by, viewed_by, waiting_of, waits_at}
use Rattle.flat_why.specs.Noted.{closings_in, session_line, stands_in, uses_in, IsKnown, WhysStand}
use Rattle.flat_why.specs.Hidden.{hidden_in, hidden_of, node_of}
use Rattle.flat_why.specs.Text.{blank_at, line_by, wait_line, why_lines, whys_at}
use Rattle.flat_why.proofs.Above.{hidden-alike}
use Rattle.flat_why.proofs.Noting.{closed-other, declared-number, dues-begun}
use Rattle.flat_why.proofs.Owners.{parent-declared}

-- ---- over the sessions of a setup

sessions-alike : {A : Type 0} (f g : SessionNo → A) (n : ℕ) → ((s : SessionNo) → 0 < s.0 → s.0 ≤ n → f s ≡ g s) → map f (sessions_to n) ≡ map g (sessions_to n)
sessions-alike f g zero same = refl
sessions-alike f g (suc n) same =
    let last : SessionNo = record { 0 = suc n } in
    map-append f (sessions_to n) (last ∷ [])
    ∙ (λ i. sessions-alike f g n (λ s some few. same s some (omega (arith, few))) i ++ same last (omega arith) (omega arith) i ∷ [])
    ∙ sym (map-append g (sessions_to n) (last ∷ []))

-- ---- the begin of a frame

module _ (setup : Setup) (shown : Shown) (taken : SessionNo → ℕ) (u v : PairNo → Option ℕ) (alike : (p : PairNo) → p.0 < length setup.pairs → u p ≡ v p) where
  hanging-alike : (p : PairNo) (declared : Option PairDecl) → slice_get setup.pairs p.0 ≡ declared
      → hanging_by setup shown taken u p (option_map (λ (pair : PairDecl). pair.viewport) declared)
      ≡ hanging_by setup shown taken v p (option_map (λ (pair : PairDecl). pair.viewport) declared)
  hanging-alike p None at = refl
  hanging-alike p (Some pair) at = by pair.viewport
    where
      by : (owner : Actor) → hanging_by setup shown taken u p (Some owner) ≡ hanging_by setup shown taken v p (Some owner)
      by Display = refl
      by (Session q) = ap (λ o. cond (is_shown_by shown p.0 q.0) (Below q) (Nowhere (Parted q p (parting_of p (state_of shown q.0) (taken q) o))))
          (alike p (slice_get_within setup.pairs p.0 pair at))
      by (Probe n) = refl

  viewed-alike : (view : Option PairNo) → viewed_by setup shown taken u view ≡ viewed_by setup shown taken v view
  viewed-alike None = refl
  viewed-alike (Some p) = hanging-alike p (slice_get setup.pairs p.0) refl

  standing-alike : (nothing : DetachedReason) (state : Option Tree) → standing_by setup shown taken u nothing state
      ≡ standing_by setup shown taken v nothing state
  standing-alike nothing None = refl
  standing-alike nothing (Some tree) = viewed-alike tree.view

-- a begin is the compositor's
nobody-begins : (setup : Setup) (time : ℕ) (who : Actor) → may_act setup (Begin time) who ≡ true → (t : SessionNo) → is_session t who ≡ false
nobody-begins setup time Display acts t = refl
nobody-begins setup time (Session s) acts t = absurd (let wrong : false ≡ true = acts in cc)
nobody-begins setup time (Probe p) acts t = refl

-- and so is an end
nobody-ends : (setup : Setup) (who : Actor) → may_act setup Finish who ≡ true → (t : SessionNo) → is_session t who ≡ false
nobody-ends setup Display acts t = refl
nobody-ends setup (Session s) acts t = absurd (let wrong : false ≡ true = acts in cc)
nobody-ends setup (Probe p) acts t = refl

no-due-end : (who : Actor) (r : Reply) → dues_by who Finish r ≡ []
no-due-end Display r = refl
no-due-end (Session s) r = refl
no-due-end (Probe p) r = refl

no-due : (time : ℕ) (who : Actor) (r : Reply) → dues_by who (Begin time) r ≡ []
no-due time Display r = refl
no-due time (Session s) r = refl
no-due time (Probe p) r = refl

pub begin-noted : (script : Script) (old history : List Entry) (entry : Entry) (time : ℕ) (shown : Shown) (was now : ReasonTracker) → history ≡ (old ▹ entry)
    → entry.kind ≡ Begin time → LegalEntry script.setup old entry
    → shown ≡ shown_states script.setup history → WhysStand script old was
    → now.dues.items ≡ filter (is_waiting script.setup history) was.dues.items
    → now.waits.items ≡ map (waiting_of script.setup history) (filter (is_waiting script.setup history) was.dues.items)
    → now.standings.items ≡ map (λ s. standing_in script.setup shown (taken script.setup history) (uses_in was.last_uses.items)
    (nothing_by (closings_in was.closings.items s) (first_of s now.waits.items)) s) (sessions_to script.setup.sessions)
    → now.closings ≡ was.closings → now.last_uses ≡ was.last_uses → now.frames ≡ was.frames → now.page ≡ was.page
    → length now.standings.items ≡ length was.standings.items → All (IsKnown script.setup) now.dues.items
    → WhysStand script history now
begin-noted script old history entry time shown was now is kind legal shows stands dues_are waits_are standings closings uses frames_are page count known =
    record {
      sessions = ap (λ v. length v.items) closings ∙ stands.sessions;
      pairs = ap (λ v. length v.items) uses ∙ stands.pairs;
      count = count ∙ stands.count;
      closed = closed;
      used = used;
      dues = dues_are ∙ left ∙ ap (λ h. filter (is_waiting script.setup h) (dues history)) (sym begun);
      known = known;
      standings = λ now-open. standings ∙ sessions-alike _ (standing_of script.setup (to_begin history)) script.setup.sessions stand;
      waits = λ now-open. waits_are ∙ ap (map (waiting_of script.setup history)) left ∙ ap (λ h. waits_at script.setup h) (sym begun);
      tells = record {
        frames = frames_are ∙ stands.tells.frames ∙ sym finishes;
        text = page ∙ stands.tells.text ∙ ap text_of (sym lines);
      };
    }
  where
    begins : is_begin entry.kind ≡ true
    begins = ap is_begin kind

    ends-none : is_finish entry.kind ≡ false
    ends-none = ap is_finish kind

    begun : to_begin history ≡ history
    begun = ap to_begin is ∙ ap (λ b. cond b (old ▹ entry) (to_begin old)) begins ∙ sym is

    other : (t : SessionNo) → is_session t entry.actor ≡ false
    other = nobody-begins script.setup time entry.actor (ap (λ k. may_act script.setup k entry.actor) (sym kind) ∙ legal.may.acts)

    closing-same : (s : SessionNo) → closing_of s history ≡ closing_of s old
    closing-same s = ap (closing_of s) is ∙ closed-other old entry s (other s)

    closed : (s : SessionNo) → is_declared script.setup s ≡ true → closings_in now.closings.items s ≡ closing_of s history
    closed s there = ap (λ v. closings_in v.items s) closings ∙ stands.closed s there ∙ sym (closing-same s)

    use-same : (p : PairNo) → last_use p history ≡ last_use p old
    use-same p = ap (last_use p) is ∙ ap (λ k. cond (is_pair (used_by k entry.reply) p) (Some (made_by entry.actor (old ▹ entry))) (last_use p old)) kind

    used : (p : PairNo) → p.0 < length script.setup.pairs → uses_in now.last_uses.items p ≡ last_use p history
    used p low = ap (λ v. uses_in v.items p) uses ∙ stands.used p low ∙ sym (use-same p)

    none : dues_by entry.actor entry.kind entry.reply ≡ []
    none = ap (λ k. dues_by entry.actor k entry.reply) kind ∙ no-due time entry.actor entry.reply

    left : filter (is_waiting script.setup history) was.dues.items ≡ filter (is_waiting script.setup history) (dues history)
    left = ap (λ h. filter (is_waiting script.setup h) was.dues.items) is ∙ dues-begun script.setup old entry was.dues.items stands.dues none
        ∙ ap (λ h. filter (is_waiting script.setup h) (dues h)) (sym is)

    finishes : frames history ≡ frames old
    finishes = ap frames is ∙ ap (λ b. length (cond b (entry ∷ filter (λ (one : Entry). is_finish one.kind) old)
        (filter (λ (one : Entry). is_finish one.kind) old))) ends-none

    lines : why_lines script history ≡ why_lines script old
    lines = ap (why_lines script) is ∙ ap (λ b. why_lines script old ++ cond b (whys_at script (suc (frames old)) (to_begin old)) []) ends-none
        ∙ append-nil (why_lines script old)

    stand : (s : SessionNo) → 0 < s.0 → s.0 ≤ script.setup.sessions
        → standing_in script.setup shown (taken script.setup history) (uses_in was.last_uses.items)
        (nothing_by (closings_in was.closings.items s) (first_of s now.waits.items)) s ≡ standing_of script.setup (to_begin history) s
    stand s some few =
        let there : is_declared script.setup s ≡ true = and-true (let low : nat_lt 0 s.0 ≡ true = grind (arith, nat_tests) in low)
        (let high : nat_le s.0 script.setup.sessions ≡ true = grind (arith, nat_tests) in high) in
        (λ i. standing_in script.setup (shows i) (taken script.setup history) (uses_in was.last_uses.items)
        (nothing_by ((stands.closed s there ∙ sym (closing-same s)) i) (first_of s ((waits_are ∙ ap (map (waiting_of script.setup history)) left) i))) s)
        ∙ standing-alike script.setup (shown_states script.setup history) (taken script.setup history) (uses_in was.last_uses.items) (λ p. last_use p history)
        (λ p low. stands.used p low ∙ sym (use-same p)) _ (state_of (shown_states script.setup history) s.0)
        ∙ ap (λ h. standing_of script.setup h s) (sym begun)

-- ---- the end of a frame

pub finish-noted : (script : Script) (old history : List Entry) (entry : Entry) (at : ℕ) (shown : Shown) (frame : FrameOut) (was now : ReasonTracker)
    (mid : List ℕ)
    → history ≡ (old ▹ entry) → entry.kind ≡ Finish → LegalEntry script.setup old entry
    → owners_declared script.setup ≡ true → Some frame ≡ last_item (finished script.setup history) → shown ≡ shown_states script.setup (to_begin history)
    → at ≡ ratio script.setup (to_begin history) → WhysStand script old was
    → WritesLines (map (session_line script at shown frame was.standings.items) (sessions_to script.setup.sessions)) was.page mid
    → WritesLines (map (wait_line script frame.frame.0) was.waits.items) mid now.page
    → now.frames ≡ frame.frame.0 → now.closings ≡ was.closings → now.last_uses ≡ was.last_uses → now.dues ≡ was.dues → now.standings ≡ was.standings
    → now.waits ≡ was.waits
    → WhysStand script history now
finish-noted script old history entry at shown frame was now mid is kind legal owners last shows scales stands sessions waits number closings uses dues_are
    standings waits_same = record {
      sessions = ap (λ v. length v.items) closings ∙ stands.sessions;
      pairs = ap (λ v. length v.items) uses ∙ stands.pairs;
      count = ap (λ v. length v.items) standings ∙ stands.count;
      closed = λ s there. ap (λ v. closings_in v.items s) closings ∙ stands.closed s there ∙ sym (closing-same s);
      used = λ p low. ap (λ v. uses_in v.items p) uses ∙ stands.used p low ∙ sym (use-same p);
      dues = ap (λ d. d.items) dues_are ∙ stands.dues ∙ (λ i. filter (is_waiting script.setup (sym begun i)) (sym due-same i));
      known = subst (λ d. All (IsKnown script.setup) d.items) (sym dues_are) stands.known;
      standings = λ now-open. absurd (let wrong : true ≡ false = sym now-open ∙ shut in cc);
      waits = λ now-open. absurd (let wrong : true ≡ false = sym now-open ∙ shut in cc);
      tells = record {
        frames = number ∙ ap (λ (f : FrameOut). f.frame.0) frame-is ∙ sym counted;
        text =
            second.text ∙ ap (λ t. t ++ text_of (whys_at script (suc (frames old)) (to_begin old))) stands.tells.text
            ∙ sym (flat_map-append (λ words. line_of words ++ 10 ∷ []) (why_lines script old) (whys_at script (suc (frames old)) (to_begin old)))
            ∙ ap text_of (sym lines);
      };
    }
  where
    setup : Setup
    setup = script.setup

    ends : is_finish entry.kind ≡ true
    ends = ap is_finish kind

    begins-none : is_begin entry.kind ≡ false
    begins-none = ap is_begin kind

    begun : to_begin history ≡ to_begin old
    begun = ap to_begin is ∙ ap (λ b. cond b (old ▹ entry) (to_begin old)) begins-none

    shut : is_frame_open history ≡ false
    shut = ap is_frame_open is ∙ (λ i. begins-none i || (not (ends i) && is_frame_open old))

    opened : is_frame_open old ≡ true
    opened = ap (keeps_time old) (sym kind) ∙ legal.may.times

    other : (t : SessionNo) → is_session t entry.actor ≡ false
    other = nobody-ends setup entry.actor (ap (λ k. may_act setup k entry.actor) (sym kind) ∙ legal.may.acts)

    closing-same : (s : SessionNo) → closing_of s history ≡ closing_of s old
    closing-same s = ap (closing_of s) is ∙ closed-other old entry s (other s)

    use-same : (p : PairNo) → last_use p history ≡ last_use p old
    use-same p = ap (last_use p) is ∙ ap (λ k. cond (is_pair (used_by k entry.reply) p) (Some (made_by entry.actor (old ▹ entry))) (last_use p old)) kind

    due-same : dues history ≡ dues old
    due-same = ap dues is ∙ ap (λ ds. dues old ++ ds) (ap (λ k. dues_by entry.actor k entry.reply) kind ∙ no-due-end entry.actor entry.reply)
        ∙ append-nil (dues old)

    counted : frames history ≡ suc (frames old)
    counted = ap frames is ∙ ap (λ b. length (cond b (entry ∷ filter (λ (one : Entry). is_finish one.kind) old)
        (filter (λ (one : Entry). is_finish one.kind) old))) ends

    whole : FrameOut
    whole = frame_at setup (suc (frames old)) (to_begin old)

    frames-are : finished setup history ≡ finished setup old ++ whole ∷ []
    frames-are = ap (finished setup) is ∙ ap (λ b. finished setup old ++ cond b (whole ∷ []) []) ends

    frame-is : frame ≡ whole
    frame-is = let both : Some frame ≡ Some whole = last ∙ ap last_item frames-are ∙ last-more (finished setup old) whole in cc

    lines : why_lines script history ≡ why_lines script old ++ whys_at script (suc (frames old)) (to_begin old)
    lines = ap (why_lines script) is ∙ ap (λ b. why_lines script old ++ cond b (whys_at script (suc (frames old)) (to_begin old)) []) ends

    -- the sessions and the presents as the rules have them
    shown-is : shown ≡ shown_states setup (to_begin old)
    shown-is = shows ∙ ap (shown_states setup) begun

    scaled : at_ratio at setup ≡ setup_at setup (to_begin old)
    scaled = ap (λ r. at_ratio r setup) (scales ∙ ap (ratio setup) begun)

    stand : (s : SessionNo) → 0 < s.0 → s.0 ≤ setup.sessions → stands_in was.standings.items s ≡ standing_of setup (to_begin old) s
    stand s some few =
        ap (λ xs. stands_in xs s) (stands.standings opened)
        ∙ listed-at (standing_of setup (to_begin old)) setup.sessions (s.0 - 1) OnDisplay (omega (arith, some, few))
        ∙ ap (λ (n : ℕ). standing_of setup (to_begin old) (record { 0 = n })) (let same : s.0 - 1 + 1 ≡ s.0 = omega (arith, some) in same)

    there : (s q : SessionNo) → standing_of setup (to_begin old) s ≡ Below q → (0 < q.0) × (q.0 ≤ setup.sessions)
    there s q is =
        let begun-last : PairNo → Option ℕ = λ p. last_use p (to_begin old) in
        declared-number setup q (parent-declared setup (shown_states setup (to_begin old)) (taken setup (to_begin old)) begun-last owners _
        (state_of (shown_states setup (to_begin old)) s.0) q is)

    hides : (s : SessionNo) → 0 < s.0 → s.0 ≤ setup.sessions
        → hidden_in (length was.standings.items) (stands_in was.standings.items) whole.tree.nodes s ≡ hidden_of setup (to_begin old) whole.tree.nodes s
    hides s some few = ap (λ (n : ℕ). hidden_in n (stands_in was.standings.items) whole.tree.nodes s) stands.count
        ∙ hidden-alike setup.sessions (stands_in was.standings.items) (standing_of setup (to_begin old)) stand there whole.tree.nodes s some few

    first : map (session_line script at shown frame was.standings.items) (sessions_to setup.sessions)
        ≡ map (λ s. line_by script whole s (hidden_of setup (to_begin old) whole.tree.nodes s) (blank_at script (to_begin old) s) (node_of s whole.tree.nodes))
        (sessions_to setup.sessions)
    first =
        sessions-alike _ _ setup.sessions (λ s some few.
        (λ i. line_by script (frame-is i) s (hidden_in (length was.standings.items) (stands_in was.standings.items) (frame-is i).tree.nodes s)
        (blank_of (state_of (shown-is i) s.0) s (placed_nodes (scaled i) (shown-is i))) (node_of s (frame-is i).tree.nodes))
        ∙ ap (λ (h : Option HiddenReason). line_by script whole s h (blank_at script (to_begin old) s) (node_of s whole.tree.nodes)) (hides s some few))

    then-waits : map (wait_line script frame.frame.0) was.waits.items ≡ map (wait_line script whole.frame.0) (waits_at setup (to_begin old))
    then-waits = (λ i. map (wait_line script (frame-is i).frame.0) (stands.waits opened i))

    second : WritesLines (whys_at script (suc (frames old)) (to_begin old)) was.page now.page
    second = then_lines (same_lines first sessions) (same_lines then-waits waits)
