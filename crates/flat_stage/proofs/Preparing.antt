-- What came of a line before its entry is made, of the seat of a session.
use Rattle.std.proofs.Common.{◌≡◌, ℕ, Bool, true, false, List, ◌∷◌, [], ◌++◌, sym, ap, ◌∙◌, subst, Option}
use Rattle.flat_scene.specs.declared.journal.Entry.{Entry}
use Rattle.flat_scene.specs.declared.journal.EntryKind.{EntryKind}
use Rattle.flat_scene.specs.declared.journal.Reply.{Reply}
use Rattle.flat_scene.specs.declared.script.SessionLine.{SessionLine}
use Rattle.flat_scene.specs.declared.setup.Setup.{Setup}
use Rattle.flat_scene.specs.Journals.{history_of}
use Rattle.flat_rules.specs.Owned.{is_played_line}
use Rattle.flat_session.specs.declared.requested_entry.RequestedEntry.{RequestedEntry}
use Rattle.flat_session.specs.declared.session_reader.SessionReader.{SessionReader}
use Rattle.flat_session.specs.Made.{kind_of}
use Rattle.flat_session.specs.Prepared.{IsPreparedFor, IsWaiting}
use Rattle.flat_session.specs.Reads.{Stands}
use Rattle.flat_stage.specs.Readings.{IsReadAlone, SeatHasRead}
use Rattle.flat_stage.specs.Seats.{AreAtOne, AreOne, Seat, SessionEnters, SessionMakes, SessionReads, SessionView, is_ended, session_view, setup_of}
use Rattle.flat_session.proofs.lemmas.Following.{waits_more}
use Rattle.flat_stage.proofs.SeatReadings.{seat_enters_more}
use Rattle.flat_stage.proofs.Sitting.{at_one_same, enters_line}

-- what the seat's call knows of the reader in it
module _ (seat : Seat) (reader : SessionReader) (view : SessionView) (is : session_view seat reader ≡ view) where
  pub stands_read : AreOne seat reader → is_ended view.mine ≡ false → Stands (setup_of seat.lock) (history_of seat.mine) reader
  stands_read one unended = one.stands (ap (λ (v : SessionView). is_ended v.mine) is ∙ unended)

  pub played_read : (text : SessionLine) → is_played_line (setup_of view.stage) view.session text ≡ true
      → is_played_line (setup_of seat.lock) reader.session text ≡ true
  played_read text played = ap (λ (v : SessionView). is_played_line (setup_of v.stage) v.session text) is ∙ played

module _ (seat : Seat) (reader new : SessionReader) (text : SessionLine) where
  abbrev setup : Setup
  setup = setup_of seat.lock

  abbrev mine : List Entry
  mine = history_of seat.mine

  -- the session stands behind the same entries
  pub one_read : AreAtOne seat reader → new.session ≡ reader.session → Stands setup mine new → AreOne seat new
  one_read at_one same stands = record { at_one = at_one_same seat reader new at_one same; stands = λ unended. stands }

  pub waiting_alone : (reply : Reply) → Stands setup mine reader → IsWaiting setup mine text reader new reply
      → IsReadAlone text reply (session_view seat reader) (session_view seat new)
  waiting_alone reply stands is =
      let before = stands.when_open is.opened in
      record {
        alone = λ opened. is.none;
        reads = λ number.
            let R : Bool → Type 0 = SessionReads number text reply (session_view seat reader) (session_view seat new) in
            let M : Option EntryKind → Type 0 = SessionMakes number text reply (session_view seat reader) (session_view seat new) in
            subst R (sym is.opened) (subst M (sym is.none) (is.answer, ap (session_view seat) is.rest));
        follows = λ given number has. waits_more setup given number text mine reader new has is.opened before.draft before.made is.none is.rest;
      }

-- a session made the entry of a line
module _ (seat given : Seat) (reader prepared after : SessionReader) (number : ℕ) (text : SessionLine) (one : RequestedEntry) (reply : Reply)
    (is : IsPreparedFor (setup_of seat.lock) (history_of seat.mine) text reader prepared one)
    (enters : SessionEnters number prepared.pending (kind_of one) reply (session_view seat prepared) (session_view given after)) where
  pub entered_reads : SessionReads number text reply (session_view seat reader) (session_view given after) reader.closed
  entered_reads =
      let R : Bool → Type 0 = SessionReads number text reply (session_view seat reader) (session_view given after) in
      let M : Option EntryKind → Type 0 = SessionMakes number text reply (session_view seat reader) (session_view given after) in
      subst R (sym is.opened) (subst M (sym is.some) (enters_line seat given reader prepared after number text (kind_of one) reply is.rest enters))

  pub entered_follows : (lines : List (ℕ × SessionLine)) → Stands (setup_of seat.lock) (history_of seat.mine) reader
      → SeatHasRead lines (session_view seat reader)
      → SeatHasRead (lines ++ (number, text) ∷ []) (session_view given after)
  entered_follows lines stands has =
      seat_enters_more lines number text given seat reader after (kind_of one) reply has is.opened (stands.when_open is.opened).none_refused
      (stands.closed ∙ is.opened) is.some (enters_line seat given reader prepared after number text (kind_of one) reply is.rest enters)
