-- The next entry of an actor, in a run that follows a text.
use Rattle.std.proofs.Common.{◌≡◌, ℕ, ◌+◌, ◌-◌, ◌<◌, ◌≤◌, Bool, true, false, List, [], ◌∷◌, length, drop, get_or, Some, None}
use Rattle.std.proofs.Common.{slice_index_or, refl, sym, ap, ◌∙◌, subst, arith}
use Rattle.std.proofs.lemmas.Bool.Decides.{nat_tests}
use Rattle.flat_base.specs.declared.ids.Actor.TheVariants.{Display, Session}
use Rattle.flat_base.specs.declared.ids.SessionNo.{SessionNo}
use Rattle.flat_scene.specs.declared.journal.Entry.{Entry}
use Rattle.flat_scene.specs.declared.setup.Setup.{Setup}
use Rattle.flat_scene.specs.History.{◌▹◌, own}
use Rattle.flat_scene.specs.Interleave.{Follows, by_display, display_lines, session_lines, unread_lines}
use Rattle.flat_scene.specs.Setups.{is_declared}
use Rattle.flat_core.specs.Machines.{Machine, entry_of}
use Rattle.flat_rules.specs.Legal.{Legal, reply_to}
use Rattle.flat_places.specs.declared.script.Script.{Script}
use Rattle.flat_playable.specs.Playable.{is_playable}
use Rattle.flat_report.proofs.lemmas.Turns.{Stands}
use Rattle.flat_play.proofs.lemmas.Begun.{follows-so-far}
use Rattle.flat_play.proofs.lemmas.Places.{drop_all}
use Rattle.flat_judge.specs.declared.following.ReplayProgress.{ReplayProgress}
use Rattle.flat_judge.specs.declared.guided_run.GuidedRun.{GuidedRun}
use Rattle.flat_judge.specs.declared.session_cursor.SessionCursor.{SessionCursor}
use Rattle.flat_judge.specs.Following.{IsAlong, MakesNext, next_actor}
use Rattle.flat_judge.specs.GuidedRuns.{DisplayGoes, Goes, RunStands, SitsBy}
use Rattle.flat_judge.proofs.Growth.{display-stays}
use Rattle.flat_judge.proofs.RunSteps.{seat_sits}
use Rattle.flat_judge.proofs.Ends.{display-done, makes-next, session-done, stops-other, stops-silent}

-- ---- a run stands by the rules

sits-follows : (script : Script) → is_playable script ≡ true → (s : SessionNo) (history : List Entry) (seat : SessionCursor) (ended : Bool)
    → SitsBy script s history seat ended → Follows script.setup script.count (session_lines s script.lines) (own s history)
sits-follows script playable s history seat true sits = sits.follows
sits-follows script playable s history seat false sits = follows-so-far script playable s seat.place (own s history) sits.stands.reads.follows

pub run-stands : (script : Script) → is_playable script ≡ true → (guided : GuidedRun) → RunStands script guided
    → Legal guided.screen.board.setup guided.screen.board.history → Stands script.setup script.count script.lines guided.screen.board.history
run-stands script playable guided stands legal = record {
  legal = (let L : Setup → Type 0 = λ st. Legal st guided.screen.board.history in subst L stands.screen.setup legal);
  sessions = λ s declared. mine s declared;
  display = stands.display.follows;
}
  where
    mine : (s : SessionNo) → is_declared script.setup s ≡ true
        → Follows script.setup script.count (session_lines s script.lines) (own s guided.screen.board.history)
    mine s declared =
        let least : 1 ≤ s.0 = grind (arith, nat_tests) in
        let most : s.0 ≤ script.setup.sessions = grind (arith, nat_tests) in
        let many = stands.seats.count in
        let within : s.0 - 1 < length guided.seats.items = omega (arith, least, most, many) in
        let same : s.0 - 1 + 1 ≡ s.0 = omega (arith, least) in
        let F : ℕ → Type 0 = λ n. Follows script.setup script.count (session_lines (record { 0 = n }) script.lines)
        (own (record { 0 = n }) guided.screen.board.history) in
        let seat = slice_index_or guided.seats.items (s.0 - 1) (some guided.seats.items within) in
        subst F same (sits-follows script playable (record { 0 = s.0 - 1 + 1 }) guided.screen.board.history seat seat.has_ended
        (stands.seats.each (s.0 - 1) (some guided.seats.items within) within))
      where
        some : (seats : List SessionCursor) → s.0 - 1 < length seats → SessionCursor
        some [] within = absurd (omega arith)
        some (seat ∷ later) within = seat

-- ---- whose entry comes next

module _ (script : Script) (text : List ℕ) (old new : Machine) (along : ReplayProgress) (is : IsAlong script text old.history along) where
  -- nobody's
  pub nobody-makes : new.history ≡ old.history → next_actor script (drop along.at text) ≡ None → MakesNext script text old.history new.history along false
  nobody-makes same nobody = MakesNext.stops same (stops-silent script text old.history along is nobody)

  -- the display's
  pub display-makes : (made : Bool) → next_actor script (drop along.at text) ≡ Some Display → DisplayGoes old new made
      → Stands script.setup script.count script.lines new.history
      → (made ≡ false → unread_lines (by_display old.history) (display_lines script.lines) ≡ []) → MakesNext script text old.history new.history along made
  display-makes false turn (DisplayGoes.stays same) standing none =
      MakesNext.stops (ap (λ (m : Machine). m.history) same)
      (stops-other script text old.history along is Display turn
      (λ other of_display stands run more whole. display-done script old.history other of_display (none refl) stands))
  display-makes true turn (DisplayGoes.enters number kind entered_is) standing none =
      let entry : Entry = entry_of Display number [] kind (reply_to old.setup old.history Display [] kind) in
      let grown : new.history ≡ (old.history ▹ entry) = ap (λ (m : Machine). m.history) entered_is in
      let S : List Entry → Type 0 = Stands script.setup script.count script.lines in
      MakesNext.makes entry grown (makes-next script text old.history along is entry turn (subst S grown standing))

  -- a session's
  pub session-makes : (s : SessionNo) → next_actor script (drop along.at text) ≡ Some (Session s) → Goes (Session s) old new true
      → Stands script.setup script.count script.lines new.history → MakesNext script text old.history new.history along true
  session-makes s turn (Goes.enters number carries kind reply aside entered_is) standing =
      let entry : Entry = entry_of (Session s) number carries kind reply in
      let grown : new.history ≡ (old.history ▹ entry) = ap (λ (m : Machine). m.history) entered_is in
      let S : List Entry → Type 0 = Stands script.setup script.count script.lines in
      MakesNext.makes entry grown (makes-next script text old.history along is entry turn (subst S grown standing))

  pub session-ended : (s : SessionNo) → is_declared script.setup s ≡ true → next_actor script (drop along.at text) ≡ Some (Session s)
      → new.history ≡ old.history → (seat : SessionCursor) → SitsBy script s old.history seat true
      → MakesNext script text old.history new.history along false
  session-ended s declared turn same seat reads =
      MakesNext.stops same (stops-other script text old.history along is (Session s) turn
      (λ other of_session stands run more whole. session-done script s old.history other of_session declared reads.ended run.history run.is.interleaves more
      whole))

-- ---- seats

pub seat-within : (script : Script) (guided : GuidedRun) (s : SessionNo) → RunStands script guided → is_declared script.setup s ≡ true
    → s.0 - 1 < length guided.seats.items
seat-within script guided s stands declared =
    let least : 1 ≤ s.0 = grind (arith, nat_tests) in
    let most : s.0 ≤ script.setup.sessions = grind (arith, nat_tests) in
    let many = stands.seats.count in
    omega (arith, least, most, many)

pub seat-number : (script : Script) (s : SessionNo) → is_declared script.setup s ≡ true → s.0 - 1 + 1 ≡ s.0
seat-number script s declared = let least : 1 ≤ s.0 = grind (arith, nat_tests) in omega (arith, least)

-- the seat of a session that has ended
pub ended-makes : (script : Script) (text : List ℕ) (guided : GuidedRun) (along : ReplayProgress) (is : IsAlong script text guided.screen.board.history along)
    (s : SessionNo) → RunStands script guided → is_declared script.setup s ≡ true
    → next_actor script (drop along.at text) ≡ Some (Session s) → (seat : SessionCursor) → seat ≡ get_or guided.seats.items (s.0 - 1) seat
    → seat.has_ended ≡ true
    → MakesNext script text guided.screen.board.history guided.screen.board.history along false
ended-makes script text guided along is s stands declared turn seat found ended =
    let history = guided.screen.board.history in
    let sits = seat_sits script guided (s.0 - 1) seat stands (seat-within script guided s stands declared) found in
    let P : ℕ → Type 0 = λ n. SitsBy script (record { 0 = n }) history seat seat.has_ended in
    let B : Bool → Type 0 = SitsBy script s history seat in
    session-ended script text guided.screen.board guided.screen.board along is s declared turn refl seat
    (subst B ended (subst P (seat-number script s declared) sits))

-- and of one that goes on
pub session-enters : (script : Script) (text : List ℕ) (old new : GuidedRun) (along : ReplayProgress) (is : IsAlong script text old.screen.board.history along)
    → is_playable script ≡ true → (s : SessionNo) → is_declared script.setup s ≡ true
    → next_actor script (drop along.at text) ≡ Some (Session s) → Goes (Session (record { 0 = s.0 - 1 + 1 })) old.screen.board new.screen.board true
    → RunStands script new → Legal new.screen.board.setup new.screen.board.history
    → MakesNext script text old.screen.board.history new.screen.board.history along true
session-enters script text old new along is playable s declared turn goes stands legal =
    let G : ℕ → Type 0 = λ n. Goes (Session (record { 0 = n })) old.screen.board new.screen.board true in
    session-makes script text old.screen.board new.screen.board along is s turn (subst G (seat-number script s declared) goes)
    (run-stands script playable new stands legal)

-- where the display has no line left, it has read all
pub none-unread : (script : Script) (old new : GuidedRun) → RunStands script new → new.place ≡ length script.lines → (made : Bool) → made ≡ false
    → DisplayGoes old.screen.board new.screen.board made
    → unread_lines (by_display old.screen.board.history) (display_lines script.lines) ≡ []
none-unread script old new stands end made none goes =
    let same : new.screen.board.history ≡ old.screen.board.history =
    ap (λ (m : Machine). m.history) (display-stays old.screen.board new.screen.board made none goes) in
    ap (λ (h : List Entry). unread_lines (by_display h) (display_lines script.lines)) (sym same)
    ∙ stands.display.left ∙ ap (λ (n : ℕ). display_lines (drop n script.lines)) end ∙ ap display_lines (drop_all script.lines)
