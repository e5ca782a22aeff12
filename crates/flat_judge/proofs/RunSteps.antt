-- A run that is made by a guide, after one step more.
use Rattle.std.proofs.Common.{◌≡◌, ◌≢◌, ℕ, ◌+◌, ◌<◌, ◌≤◌, Bool, true, false, cond, ◌==◌, List, [], length, drop, get_or, set, replicate, refl}
use Rattle.std.proofs.Common.{sym, ap, ◌∙◌, subst, arith, Some, None, slice_get, slice_set, slice_index_or}
use Rattle.std.proofs.lemmas.Bool.{eq-eqb, eqb-true}
use Rattle.std.proofs.lemmas.Bool.Decides.{nat_tests}
use Rattle.std.proofs.lemmas.Option.{slice_get-get_or}
use Rattle.flat_base.specs.declared.ids.Actor.TheVariants.{Display, Session}
use Rattle.flat_base.specs.declared.ids.SessionNo.{SessionNo}
use Rattle.flat_scene.specs.declared.journal.Entry.{Entry}
use Rattle.flat_scene.specs.declared.journal.EntryKind.{EntryKind}
use Rattle.flat_scene.specs.declared.journal.Reply.{Reply}
use Rattle.flat_scene.specs.declared.script.DisplayLine.{DisplayLine}
use Rattle.flat_scene.specs.declared.script.ProbeLine.{ProbeLine}
use Rattle.flat_scene.specs.declared.script.ScriptLine.{ScriptLine}
use Rattle.flat_scene.specs.History.{◌▹◌, is_display}
use Rattle.flat_scene.specs.Interleave.{FollowsDisplay, by_display, display_line, display_lines, entry_of_display, unread_lines}
use Rattle.flat_scene.specs.Setups.{at_ratio}
use Rattle.flat_core.specs.Machines.{Machine, entry_of, made}
use Rattle.flat_rules.specs.Legal.{begin_time, is_frame_open, reply_to}
use Rattle.flat_places.specs.declared.script.Script.{Script}
use Rattle.flat_playable.specs.Playable.{frames_close, is_playable}
use Rattle.flat_report.specs.declared.probes.ProbeAnswer.{ProbeAnswer}
use Rattle.flat_judge.specs.declared.replay_screen.ReplayScreen.{ReplayScreen}
use Rattle.flat_play.specs.declared.frame.LastFrame.{LastFrame}
use Rattle.flat_play.specs.Last.{StaysLast}
use Rattle.flat_play.specs.Probing.{answer_of, with_answer}
use Rattle.flat_play.specs.Playing.{DisplayStands, display_text, lines_by}
use Rattle.flat_play.proofs.lemmas.DisplaySteps.{display_numbered}
use Rattle.flat_play.proofs.lemmas.Places.{frames_are, rises}
use Rattle.flat_play.proofs.lemmas.Slots.{got-other, got-same}
use Rattle.flat_play.proofs.lemmas.Steps.{At}
use Rattle.flat_play.proofs.lemmas.Unread.{later_all}
use Rattle.flat_judge.specs.declared.guided_run.GuidedRun.{GuidedRun}
use Rattle.flat_judge.specs.declared.session_cursor.SessionCursor.{SessionCursor}
use Rattle.flat_judge.specs.GuidedRuns.{AreBehind, ProbeGoesOn, Goes, GoesOn, HasEntered, HaveEnded, IsAt, RunStands, SeatsStand, ScreenStands, Sits, SitsBy}
use Rattle.flat_judge.specs.GuidedRuns.{ProbesStandAt, asked_here, is_aside}
use Rattle.flat_judge.proofs.DisplayLines.{IsDisplays, display_goes, display_passes, goes_spent, passes_spent}
use Rattle.flat_judge.proofs.Seats.{made_one, seats_display, seats_set}
use Rattle.flat_judge.proofs.Screens.{aside_begin, aside_finish, screen_aside, screen_stays}
use Rattle.flat_judge.proofs.ProbePlaces.{probes-answer, probes-first, probes-on, probes-pass}

-- ---- before any line

pub run_first : (script : Script) → is_playable script ≡ true → (guided : GuidedRun) → ScreenStands script guided.screen → guided.screen.board.history ≡ []
    → SeatsStand script [] guided.seats.items → guided.place ≡ 0 → guided.places ≡ replicate script.setup.probes 0
    → guided.answers.items ≡ replicate script.setup.probes [] → RunStands script guided
run_first script playable guided show none seats place places answers =
    let S : List Entry → Type 0 = λ h. SeatsStand script h guided.seats.items in
    let D : ℕ → List Entry → Type 0 = λ n h. DisplayStands script n h in
    let D1 : List Entry → Type 0 = D 0 in
    let D2 : ℕ → Type 0 = λ n. D n guided.screen.board.history in
    let R : List Entry → Type 0 = λ h. ProbesStandAt script h guided.places guided.answers.items in
    let no_entry : made 0 guided.screen.board.history ≡ 0 = ap (made 0) none in
    let from_start : lines_by 0 (drop guided.place script.lines) ≡ lines_by 0 script.lines = ap (λ (n : ℕ). lines_by 0 (drop n script.lines)) place in
    record {
      screen = show;
      seats = subst S (sym none) seats;
      within = omega (arith, place);
      display = subst D2 (sym place) (subst D1 (sym none) (record {
        follows = tt;
        left = later_all (λ one. display_line one.number one.body) display_numbered 0 0 script.lines (omega arith) (rises script playable);
        closing = frames_are script playable;
      }));
      spent = omega (arith, no_entry, from_start);
      probes = subst R (sym none) (probes-first script guided.places guided.answers.items places answers);
    }

-- ---- an entry of a session

-- the seat at a place
pub seat_sits : (script : Script) (guided : GuidedRun) (k : ℕ) (seat : SessionCursor) → RunStands script guided → k < length guided.seats.items
    → seat ≡ get_or guided.seats.items k seat → Sits script (record { 0 = k + 1 }) guided.screen.board.history seat
seat_sits script guided k seat stands below is =
    let P : SessionCursor → Type 0 = λ p. Sits script (record { 0 = k + 1 }) guided.screen.board.history p in
    subst P (sym is) (stands.seats.each k seat below)

pub seat_open : (script : Script) (s : SessionNo) (history : List Entry) (seat : SessionCursor) → seat.has_ended ≡ false → Sits script s history seat
    → IsAt script s history seat
seat_open script s history seat unended sits = subst (SitsBy script s history seat) unended sits

display_beside_entry : (script : Script) (place : ℕ) (old : List Entry) (e : Entry) → is_display e.actor ≡ false → is_aside e.kind ≡ true
    → DisplayStands script place old → DisplayStands script place (old ▹ e)
display_beside_entry script place old e other aside stands =
    let F : List Entry → Type 0 = FollowsDisplay (display_lines script.lines) in
    let mine : by_display (old ▹ e) ≡ by_display old = rw other refl in
    let is_open : is_frame_open (old ▹ e) ≡ is_frame_open old = rw (aside_begin e.kind aside, aside_finish e.kind aside) refl in
    let time : begin_time (old ▹ e) ≡ begin_time old = rw (aside_begin e.kind aside) refl in
    record {
      follows = subst F (sym mine) stands.follows;
      left = ap (λ es. unread_lines es (display_lines script.lines)) mine ∙ stands.left;
      closing = ap (λ o. frames_close o (begin_time (old ▹ e)) (drop place script.lines)) is_open
          ∙ ap (λ t. frames_close (is_frame_open old) t (drop place script.lines)) time ∙ stands.closing;
    }

pub session_goes : (script : Script) (guided next : GuidedRun) (k : ℕ) (seat : SessionCursor) (board : Machine) → k < length guided.seats.items
    → RunStands script guided
    → Goes (Session (record { 0 = k + 1 })) guided.screen.board board true
    → Sits script (record { 0 = k + 1 }) board.history seat → next.screen ≡ record guided.screen { board = board }
    → next.seats.items ≡ set guided.seats.items k seat → next.place ≡ guided.place → next.places ≡ guided.places → next.answers.items ≡ guided.answers.items
    → RunStands script next
session_goes script guided next k seat board below stands (Goes.enters number carries kind reply aside is) sits screen_is seats_are place_is places_are
    answers_are =
    let h : List Entry = guided.screen.board.history in
    let e : Entry = entry_of (Session (record { 0 = k + 1 })) number carries kind reply in
    let grown : board.history ≡ (h ▹ e) = ap (λ (m : Machine). m.history) is in
    let history : next.screen.board.history ≡ (h ▹ e) = ap (λ (p : ReplayScreen). p.board.history) screen_is ∙ grown in
    let H : ReplayScreen → Type 0 = ScreenStands script in
    let S : List SessionCursor → Type 0 = SeatsStand script board.history in
    let S1 : Machine → Type 0 = λ m. SeatsStand script m.history next.seats.items in
    let D : ℕ → Type 0 = λ n. DisplayStands script n (h ▹ e) in
    let D1 : List Entry → Type 0 = DisplayStands script next.place in
    let R : List ℕ → List (List ProbeAnswer) → Type 0 = ProbesStandAt script (h ▹ e) in
    let R1 : List ℕ → Type 0 = λ ps. R ps guided.answers.items in
    let R2 : List (List ProbeAnswer) → Type 0 = R next.places in
    let R3 : List Entry → Type 0 = λ es. ProbesStandAt script es next.places next.answers.items in
    let other : (k + 1 == 0) ≡ false = grind (arith, nat_tests) in
    let none : ◌≡◌ {A = ℕ} (cond (k + 1 == 0) 1 0) 0 = ap (λ b. cond b 1 0) other in
    let more : made 0 next.screen.board.history ≡ made 0 h + cond (k + 1 == 0) 1 0 = ap (made 0) history ∙ made_one 0 h e in
    let left : lines_by 0 (drop next.place script.lines) ≡ lines_by 0 (drop guided.place script.lines) =
    ap (λ (n : ℕ). lines_by 0 (drop n script.lines)) place_is in
    let within = stands.within in
    let spent = stands.spent in
    let goes : Goes (Session (record { 0 = k + 1 })) guided.screen.board board true = Goes.enters number carries kind reply aside is in
    record {
      screen = subst H (sym screen_is) (screen_aside script guided.screen board (Session (record { 0 = k + 1 })) number carries kind reply aside is
          stands.screen);
      seats = subst S1 (sym (ap (λ (p : ReplayScreen). p.board) screen_is))
          (subst S (sym seats_are) (seats_set script k guided.screen.board board guided.seats.items seat below goes sits stands.seats));
      within = omega (arith, place_is, within);
      display = subst D1 (sym history) (subst D (sym place_is) (display_beside_entry script guided.place h e refl aside stands.display));
      spent = omega (arith, more, none, left, spent);
      probes = subst R3 (sym history) (subst R2 (sym answers_are)
          (subst R1 (sym places_are) (probes-on script h e guided.places guided.answers.items stands.probes)));
    }

-- the seat that was set went on
pub goes_on : (seats : List SessionCursor) (k : ℕ) (was is : SessionCursor) → k < length seats → was ≡ get_or seats k was
    → (is.has_ended ≡ false → was.place < is.place)
    → GoesOn k seats (slice_set seats k is)
goes_on seats k was is below found later = record {
  others = λ j other. got-other seats k j is other;
  on = λ a b at then not_ended.
      let first : Some a ≡ Some was = sym at ∙ slice_get-get_or seats k was below ∙ (λ i. Some (sym found i)) in
      let second : Some b ≡ Some is = sym then ∙ got-same seats k is below in
      let a_is : a ≡ was = cc in
      let b_is : b ≡ is = cc in
      let less : was.place < is.place = later (ap (λ (p : SessionCursor). p.has_ended) (sym b_is) ∙ not_ended) in
      let from : a.place ≡ was.place = ap (λ (p : SessionCursor). p.place) a_is in
      let to : b.place ≡ is.place = ap (λ (p : SessionCursor). p.place) b_is in
      omega (arith, less, from, to);
}

-- ---- a line of the display

module _ (script : Script) (guided next : GuidedRun) (x : ScriptLine) (at : At script guided.place x) (below : guided.place < length script.lines)
    (stands : RunStands script guided) (place_is : next.place ≡ guided.place + 1) where
  -- one of another actor
  pub line_passes : display_text x.body ≡ None → next.screen ≡ guided.screen → next.seats ≡ guided.seats → next.places ≡ guided.places
      → next.answers ≡ guided.answers → RunStands script next
  line_passes none screen_is seats_are places_are answers_are =
      let h : List Entry = guided.screen.board.history in
      let P : ReplayScreen → Type 0 = ScreenStands script in
      let S : GuidedRun → Type 0 = λ r. SeatsStand script r.screen.board.history r.seats.items in
      let D : ℕ → Type 0 = λ n. DisplayStands script n h in
      let then : GuidedRun = record guided { place = guided.place + 1 } in
      let spent = passes_spent script guided.place x at h stands.spent in
      let made_so : RunStands script then = record {
        screen = stands.screen;
        seats = stands.seats;
        within = omega (arith, below);
        display = display_passes script guided.place x at none h stands.display;
        spent = spent;
        probes = stands.probes;
      } in
      let same : next ≡ then = λ i. record { screen = screen_is i; seats = seats_are i; place = place_is i; places = places_are i; answers = answers_are i } in
      subst (RunStands script) (sym same) made_so

  -- one of the display
  pub line_enters : (text : DisplayLine) → IsDisplays x text → ScreenStands script next.screen
      → HasEntered x.number (entry_of_display text) guided.screen.board next.screen.board → next.seats ≡ guided.seats → next.places ≡ guided.places
      → next.answers ≡ guided.answers
      → RunStands script next
  line_enters text is show entered_is seats_are places_are answers_are =
      let h : List Entry = guided.screen.board.history in
      let kind : EntryKind = entry_of_display text in
      let reply : Reply = reply_to guided.screen.board.setup h Display [] kind in
      let e : Entry = entry_of Display x.number [] kind reply in
      let grown : next.screen.board.history ≡ (h ▹ e) = ap (λ (m : Machine). m.history) entered_is in
      let R : List Entry → Type 0 = λ es. ProbesStandAt script es guided.places guided.answers.items in
      let then : GuidedRun = record guided { screen = next.screen; place = guided.place + 1 } in
      let made_so : RunStands script then = record {
        screen = show;
        seats = seats_display script guided.screen.board next.screen.board x.number [] kind reply guided.seats.items entered_is stands.seats;
        within = omega (arith, below);
        display = display_goes script guided.place x at text is guided.screen.board next.screen.board entered_is stands.display;
        spent = goes_spent script guided.place x at text is guided.screen.board next.screen.board entered_is stands.spent;
        probes = subst R (sym grown) (probes-on script h e guided.places guided.answers.items stands.probes);
      } in
      let same : next ≡ then = λ i. record { screen = next.screen; seats = seats_are i; place = place_is i; places = places_are i; answers = answers_are i } in
      subst (RunStands script) (sym same) made_so

-- ---- probes

module _ (script : Script) (guided : GuidedRun) (probe place : ℕ) (below : probe < length guided.places) (at_place : slice_get guided.places probe ≡ Some place)
    (short : place < length script.lines) (x : ScriptLine) (at : At script place x)
    (stands : RunStands script guided) where
  -- a probe passes a line that isn't its own
  pub probe_passes : (next : GuidedRun) → asked_here probe x.actor x.body ≡ None → next.screen ≡ guided.screen → next.seats ≡ guided.seats
      → next.place ≡ guided.place → next.places ≡ slice_set guided.places probe (place + 1) → next.answers ≡ guided.answers
      → RunStands script next
  probe_passes next none screen_is seats_are place_is places_are answers_are =
      let then : GuidedRun = record guided { places = slice_set guided.places probe (place + 1) } in
      let stands_then : RunStands script then = record {
        screen = stands.screen;
        seats = stands.seats;
        within = stands.within;
        display = stands.display;
        spent = stands.spent;
        probes = probes-pass script guided.screen.board.history guided.places guided.answers.items stands.probes probe place below at_place x at short none;
      } in
      let same : next ≡ then = λ i. record { screen = screen_is i; seats = seats_are i; place = place_is i; places = places_are i; answers = answers_are i } in
      subst (RunStands script) (sym same) stands_then

  abbrev with_last : LastFrame → ReplayScreen
  with_last last = record guided.screen { store = record guided.screen.store { last = last } }

  -- or one that is, which the last frame answers
  pub probe_answers : (mid next : GuidedRun) (asked : ProbeLine) → asked_here probe x.actor x.body ≡ Some asked
      → mid ≡ record guided { screen = with_last mid.screen.store.last; answers = mid.answers }
      → StaysLast script.setup guided.screen.store.last mid.screen.store.last
      → mid.answers.items ≡ with_answer probe (answer_of (at_ratio guided.screen.store.last.ratio script.setup) guided.screen.store.last.reuse
      guided.screen.store.last.frame.0 x.actor x.number asked) guided.answers.items
      → next.screen ≡ mid.screen → next.seats ≡ mid.seats → next.place ≡ mid.place → next.places ≡ slice_set mid.places probe (place + 1)
      → next.answers ≡ mid.answers → RunStands script next
  probe_answers mid next asked asks others stays answered screen_is seats_are place_is places_are answers_are =
      let last = stands.screen.frames.stored.ends in
      let P : List (List ProbeAnswer) → Type 0 = ProbesStandAt script guided.screen.board.history (slice_set guided.places probe (place + 1)) in
      let then : GuidedRun = record guided {
        screen = with_last mid.screen.store.last;
        places = slice_set guided.places probe (place + 1);
        answers = mid.answers;
      } in
      let stands_then : RunStands script then = record {
        screen = screen_stays script guided.screen mid.screen.store.last stays stands.screen;
        seats = stands.seats;
        within = stands.within;
        display = stands.display;
        spent = stands.spent;
        probes = subst P (sym answered)
            (probes-answer script guided.screen.board.history guided.places guided.answers.items stands.probes probe place below at_place x at short asked asks
            (at_ratio guided.screen.store.last.ratio script.setup) guided.screen.store.last.reuse guided.screen.store.last.frame.0 last.number
            (ap (λ (n : ℕ). at_ratio n script.setup) last.scales) last.shows);
      } in
      let screens : next.screen ≡ with_last mid.screen.store.last = screen_is ∙ ap (λ (r : GuidedRun). r.screen) others in
      let seats : next.seats ≡ guided.seats = seats_are ∙ ap (λ (r : GuidedRun). r.seats) others in
      let its_place : next.place ≡ guided.place = place_is ∙ ap (λ (r : GuidedRun). r.place) others in
      let its_places : next.places ≡ slice_set guided.places probe (place + 1) =
      places_are ∙ ap (λ (r : GuidedRun). slice_set r.places probe (place + 1)) others in
      let same : next ≡ then = λ i. record { screen = screens i; seats = seats i; place = its_place i; places = its_places i; answers = answers_are i } in
      subst (RunStands script) (sym same) stands_then

-- each probe has its answers
pub has_answers : (script : Script) (guided : GuidedRun) (probe : ℕ) → RunStands script guided → probe < length guided.places
    → probe < length guided.answers.items
has_answers script guided probe stands below = let many = stands.probes.count in let as_many = stands.probes.as_many in omega (arith, below, many, as_many)

-- a probe's place is within the script
pub place_within : (script : Script) (guided : GuidedRun) (probe place : ℕ) → RunStands script guided → probe < length guided.places
    → slice_get guided.places probe ≡ Some place → place ≤ length script.lines
place_within script guided probe place stands below at =
    let one : List ProbeAnswer = slice_index_or guided.answers.items probe [] in
    (stands.probes.each probe place one at (slice_get-get_or guided.answers.items probe [] (has_answers script guided probe stands below))).0

-- one probe more is behind all lines
pub behind_more : (script : Script) (probe : ℕ) (is_last : Bool) (old new : List ℕ) → is_last ≡ true → ProbeGoesOn script probe is_last old new
    → AreBehind script probe old → AreBehind script (probe + 1) new
behind_more script probe is_last old new last go behind = λ n place below got. by n place below got (n == probe) refl
  where
    by : (n place : ℕ) → n < probe + 1 → slice_get new n ≡ Some place → (b : Bool) → (n == probe) ≡ b → place ≡ length script.lines
    by n place below got true is =
        let here : n ≡ probe = eqb-true n probe is in
        let there : Some place ≡ Some (length script.lines) = sym got ∙ ap (slice_get new) here ∙ go.last last in
        cc
    by n place below got false is =
        let apart : n ≢ probe = (λ same. let one : (n == probe) ≡ true = eq-eqb n probe same in let both : true ≡ false = sym one ∙ is in cc) in
        let less : n < probe = grind (arith, nat_tests) in
        behind n place less (sym (go.others n apart) ∙ got)

-- two items that stand at one place are one
pub same_seat : (seats : List SessionCursor) (k : ℕ) (a b : SessionCursor) → k < length seats → a ≡ get_or seats k a → b ≡ get_or seats k b → a ≡ b
same_seat seats k a b below first second =
    let both : Some (get_or seats k a) ≡ Some (get_or seats k b) = sym (slice_get-get_or seats k a below) ∙ slice_get-get_or seats k b below in
    let same : get_or seats k a ≡ get_or seats k b = cc in
    first ∙ same ∙ sym second

-- ---- sessions that have ended

pub seat_found : (seats : List SessionCursor) (k : ℕ) (a b : SessionCursor) → k < length seats → a ≡ get_or seats k a → slice_get seats k ≡ Some b → a ≡ b
seat_found seats k a b below first at =
    let both : Some (get_or seats k a) ≡ Some b = sym (slice_get-get_or seats k a below) ∙ at in
    let same : get_or seats k a ≡ b = cc in
    first ∙ same

pub ended_more : (k : ℕ) (seats : List SessionCursor) → HaveEnded k seats → ((seat : SessionCursor) → slice_get seats k ≡ Some seat → seat.has_ended ≡ true)
    → HaveEnded (k + 1) seats
ended_more k seats before here = λ j seat below at. by j seat below at (j == k) refl
  where
    by : (j : ℕ) (seat : SessionCursor) → j < k + 1 → slice_get seats j ≡ Some seat → (b : Bool) → (j == k) ≡ b → seat.has_ended ≡ true
    by j seat below at true is = here seat (ap (slice_get seats) (sym (eqb-true j k is)) ∙ at)
    by j seat below at false is = before j seat (let less : j < k = grind (arith, nat_tests) in less) at

pub still_ended : (k : ℕ) (old new : List SessionCursor) → GoesOn k old new → HaveEnded k old → HaveEnded k new
still_ended k old new on before = λ j seat below at. before j seat below (sym (on.others j (λ same. omega (arith, below, same))) ∙ at)

pub must_end : (script : Script) (guided : GuidedRun) (k count : ℕ) → k < length guided.seats.items → RunStands script guided → length script.lines + 1 ≤ count
    → ((seat : SessionCursor) → slice_get guided.seats.items k ≡ Some seat → seat.has_ended ≡ false → count ≤ seat.place) → (seat : SessionCursor)
    → slice_get guided.seats.items k ≡ Some seat → seat.has_ended ≡ true
must_end script guided k count below stands over late seat at = by seat.has_ended refl
  where
    by : (b : Bool) → seat.has_ended ≡ b → seat.has_ended ≡ true
    by true is = is
    by false is =
        let found : Some (get_or guided.seats.items k seat) ≡ Some seat = sym (slice_get-get_or guided.seats.items k seat below) ∙ at in
        let same : get_or guided.seats.items k seat ≡ seat = cc in
        let sits = seat_open script (record { 0 = k + 1 }) guided.screen.board.history seat is (seat_sits script guided k seat stands below (sym same)) in
        let low = late seat at is in
        let within = sits.within in
        absurd (omega (arith, over, low, within))
