-- From what each seat knows at the end to what the whole history is.
use Rattle.std.proofs.Common.{◌≡◌, ℕ, suc, ◌+◌, ◌<◌, ◌≤◌, Bool, true, List, [], ◌∷◌, ◌++◌, length, reverse, slice_get, Option, Some, refl, sym, ap, ◌∙◌, subst}
use Rattle.std.proofs.Common.{arith}
use Rattle.std.specs.List.{list_all}
use Rattle.std.specs.Option.{is_some}
use Rattle.std.proofs.lemmas.List.{reverse-append, reverse-reverse}
use Rattle.flat_base.specs.declared.ids.SessionNo.{SessionNo}
use Rattle.flat_base.specs.declared.limits.TheConstants.{SESSIONS_MAX}
use Rattle.flat_scene.specs.declared.journal.Entry.{Entry}
use Rattle.flat_scene.specs.declared.setup.Setup.{Setup}
use Rattle.flat_scene.specs.History.{own}
use Rattle.flat_scene.specs.Journals.{history_of}
use Rattle.flat_scene.specs.Interleave.{Follows, IsReading, display_lines, session_lines}
use Rattle.flat_core.specs.Machines.{Machine}
use Rattle.flat_lock.specs.History.{StartsWith}
use Rattle.flat_rules.specs.Legal.{Legal, frames}
use Rattle.flat_rules.specs.Seats.{JournalsKeepSeats, SeatsTellActors, of_seat}
use Rattle.flat_places.specs.declared.script.Script.{Script}
use Rattle.flat_stage.specs.Displays.{DisplayView}
use Rattle.flat_stage.specs.Homes.{SeatsView}
use Rattle.flat_stage.specs.Seats.{SessionView, StageView, entries_of_seat}
use Rattle.flat_report.specs.Report.{finished}
use Rattle.flat_play.specs.Playing.{HasPlayed}
use Rattle.flat_play.proofs.lemmas.Places.{all_to, drop_all}
use Rattle.flat_play.proofs.lemmas.Starting.{is_numbered}
use Rattle.flat_race.specs.declared.race_frames.RaceFrames.{RaceFrames}
use Rattle.flat_race.specs.Ends.{HaveEnded}
use Rattle.flat_race.specs.SessionThreads.{AreBack}
use Rattle.flat_race.specs.Directing.{SeatStands}
use Rattle.flat_play.specs.Beginning.{AreBegun}
use Rattle.flat_report.specs.Probes.{ProbesAnswered}
use Rattle.flat_race.proofs.lemmas.Beside.{IsBeside, seen_beside}
use Rattle.flat_race.proofs.lemmas.StillStands.{display_same, stored_same}
use Rattle.flat_race.proofs.Probed.{answered-on-all}
use Rattle.flat_base.proofs.lemmas.Tests.{and-true}

-- what is known of all seats once the stage is closed
pub record IsClosed (compositor : DisplayView) (seats : SeatsView) (board : Machine) : Type 0 where
  pub display : StartsWith (reverse board.history) compositor.seen × (compositor.mine ≡ entries_of_seat 0 (reverse board.history))
  pub sessions : (k : ℕ) (s : SessionView) → slice_get seats.seats k ≡ Some (Some s)
      → StartsWith (reverse board.history) s.seen × (s.mine ≡ entries_of_seat s.session.0 (reverse board.history))
  pub legal : Legal board.setup board.history

all_some : {A : Type 0} (xs : List (Option A)) → ((k : ℕ) → k < length xs → (x : A) × (slice_get xs k ≡ Some (Some x))) → list_all is_some xs ≡ true
all_some [] each = refl
all_some (x ∷ xs) each =
    let first = each 0 (omega arith) in
    let here : is_some x ≡ true = (let same : x ≡ Some first.0 = cc in ap is_some same) in
    and-true here (all_some xs (λ k below. each (suc k) (omega arith)))

pub all_home : (script : Script) (view : StageView) (whole : Bool) (seats : List (Option SessionView)) → AreBack view script 0 whole seats
    → list_all is_some seats ≡ true
all_home script view whole seats back = all_some seats
    (λ k below. let count = back.count in let h = back.home k (omega arith) (omega (arith, count)) in (h.0, h.1))

-- The compositor stands at a place, and the sessions are back.
module _ (script : Script) (view : StageView) (place : ℕ) (compositor : DisplayView) (directed : SeatStands script view place compositor) (seats : SeatsView)
    (whole : Bool) (back : AreBack view script 0 whole seats.seats) where
  module _ (board : Machine) (closed : IsClosed compositor seats board) (setup : board.setup ≡ script.setup) (few : script.setup.sessions ≤ SESSIONS_MAX) where
    legal : Legal script.setup board.history
    legal = subst (λ (s : Setup). Legal s board.history) setup closed.legal

    pub same_display : IsBeside script.setup (history_of compositor.seen) board.history
    same_display =
        let rest : List Entry = closed.display.0.0 in
        let longer : board.history ≡ history_of (compositor.seen ++ rest) = sym (reverse-reverse board.history) ∙ ap history_of closed.display.0.1 in
        let own : entries_of_seat 0 (compositor.seen ++ rest) ≡ entries_of_seat 0 compositor.seen =
        ap (entries_of_seat 0) (sym closed.display.0.1) ∙ sym closed.display.1 ∙ directed.mine in
        subst (λ (h : List Entry). IsBeside script.setup (history_of compositor.seen) h) (sym longer)
        (seen_beside script.setup compositor.seen rest (subst (λ (h : List Entry). Legal script.setup h) longer legal) own)

    -- a session's entries in the history are those of its seat
    own_is : SeatsTellActors → JournalsKeepSeats → (k : ℕ) → (below : k < script.setup.sessions)
        → own (record { 0 = k + 1 }) board.history ≡ history_of (back.home k (omega arith) below).0.mine
    own_is tell keep k below =
        let s : SessionNo = record { 0 = k + 1 } in
        let home = back.home k (omega arith) below in
        let mine : home.0.mine ≡ entries_of_seat (k + 1) (reverse board.history) =
        (closed.sessions k home.0 home.1).1 ∙ ap (λ (n : ℕ). entries_of_seat n (reverse board.history)) home.2 in
        (tell script.setup few board.history legal).sessions s (is_numbered script.setup k below) ∙ ap (of_seat (k + 1)) (sym (reverse-reverse board.history))
        ∙ keep (k + 1) (reverse board.history) ∙ ap history_of (sym mine)

    follows : SeatsTellActors → JournalsKeepSeats → (k : ℕ) → k < script.setup.sessions
        → Follows script.setup script.count (session_lines (record { 0 = k + 1 }) script.lines) (own (record { 0 = k + 1 }) board.history)
    follows tell keep k below =
        let s : SessionNo = record { 0 = k + 1 } in
        let home = back.home k (omega arith) below in
        subst (λ (es : List Entry). Follows script.setup script.count (session_lines s script.lines) es) (sym (own_is tell keep k below))
        (back.begun k home.0 (omega arith) below home.1)

    pub reading : SeatsTellActors → JournalsKeepSeats → whole ≡ true → (k : ℕ) → k < script.setup.sessions
        → IsReading script.setup script.count (session_lines (record { 0 = k + 1 }) script.lines) (own (record { 0 = k + 1 }) board.history)
    reading tell keep all k below =
        let s : SessionNo = record { 0 = k + 1 } in
        let home = back.home k (omega arith) below in
        subst (λ (es : List Entry). IsReading script.setup script.count (session_lines s script.lines) es) (sym (own_is tell keep k below))
        (back.read k home.0 (omega arith) below home.1 all)

    pub same_frames : finished script.setup board.history ≡ finished script.setup (history_of compositor.seen)
    same_frames = same_display.finishing

    -- what was done by then begins the script
    pub has_begun : SeatsTellActors → JournalsKeepSeats → AreBegun script (finished script.setup (history_of compositor.seen))
    has_begun tell keep = record {
      history = board.history;
      begins = record {
        legal = legal;
        sessions = all_to (λ s. Follows script.setup script.count (session_lines s script.lines) (own s board.history)) script.setup.sessions
            (follows tell keep);
        display = (display_same script (history_of compositor.seen) board.history same_display place directed.display).follows;
      };
      are = sym same_frames;
    }

-- All came to their end.
module _ (script : Script) (view : StageView) (compositor : DisplayView) (seats : SeatsView) (film : RaceFrames)
    (ended : HaveEnded view script compositor seats film)
    (board : Machine) (closed : IsClosed compositor seats board) (setup : board.setup ≡ script.setup) (few : script.setup.sessions ≤ SESSIONS_MAX) where
  beside : IsBeside script.setup (history_of compositor.seen) board.history
  beside = same_display script view (length script.lines) compositor ended.directed seats true ended.back board closed setup few

  pub has_played : SeatsTellActors → JournalsKeepSeats → HasPlayed script board film.store.kept film.store.answers
  has_played tell keep =
      let stood = display_same script (history_of compositor.seen) board.history beside (length script.lines) ended.directed.display in
      let shot = stored_same script (history_of compositor.seen) board.history beside film.store ended.kept in
      record {
        setup = setup;
        interleaves = record {
          sessions = all_to (λ s. IsReading script.setup script.count (session_lines s script.lines) (own s board.history)) script.setup.sessions
              (reading script view (length script.lines) compositor ended.directed seats true ended.back board closed setup few tell keep refl);
          display = stood.follows;
          all_read = stood.left ∙ ap display_lines (drop_all script.lines);
        };
        keeps = shot.keeps;
        answering = shot.points;
      }

  pub as_many : frames board.history ≡ frames (history_of compositor.seen)
  as_many = beside.number

  pub all_probed : ProbesAnswered script board.history film.probes.items
  all_probed =
      let rest : List Entry = closed.display.0.0 in
      let longer : board.history ≡ reverse rest ++ history_of compositor.seen =
      sym (reverse-reverse board.history) ∙ ap history_of closed.display.0.1 ∙ reverse-append compositor.seen rest in
      answered-on-all script (reverse rest) (history_of compositor.seen) board.history film.probes.items longer ended.probed
