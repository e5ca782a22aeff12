-- What came of a line that may make no entry, of the seat of a session.
use Rattle.std.proofs.Common.{◌≡◌, ◌+◌, Bool, true, false, Ok, List, ◌++◌, sym, ap, ◌∙◌, subst, Option, None, Result, Err, IfOk, OnErr}
use Rattle.std.specs.Prelude.{is_some, ⊤}
use Rattle.flat_scene.specs.declared.journal.Entry.{Entry}
use Rattle.flat_scene.specs.declared.journal.EntryKind.{EntryKind}
use Rattle.flat_scene.specs.declared.journal.Reply.{Reply}
use Rattle.flat_scene.specs.declared.journal.Reply.TheVariants.{Closed}
use Rattle.flat_scene.specs.declared.script.SessionLine.{SessionLine}
use Rattle.flat_scene.specs.declared.setup.Setup.{Setup}
use Rattle.flat_scene.specs.Draft.{Draft}
use Rattle.flat_scene.specs.Journals.{history_of}
use Rattle.flat_scene.specs.Interleave.{calls_of_line, entry_of_line}
use Rattle.flat_rules.specs.Owned.{is_played_line}
use Rattle.flat_session.specs.declared.session_reader.EditOutcome.{EditOutcome}
use Rattle.flat_session.specs.declared.session_reader.EditOutcome.TheVariants.{Read, Unread}
use Rattle.flat_session.specs.declared.session_reader.SessionReader.{SessionReader}
use Rattle.flat_stage.specs.Readings.{IsReadAlone, IsUnread, SeatEdits}
use Rattle.flat_session.specs.Reads.{Edits, Stands, draft_so_far}
use Rattle.flat_stage.specs.Seats.{AreAtOne, AreOne, GoesOn, Seat, SessionMakes, SessionReads, SessionView, session_view, setup_of}
use Rattle.flat_session.proofs.lemmas.Following.{refused_more, waits_more}
use Rattle.flat_stage.proofs.Going.{goes_on, goes_same}
use Rattle.flat_stage.proofs.Sitting.{at_one_same}
use Rattle.flat_session.proofs.lemmas.Standing.{so_far, stands_waiting, was}

module _ (seat : Seat) (reader after : SessionReader) (text : SessionLine) (stands : Stands (setup_of seat.lock) (history_of seat.mine) reader)
    (opened : reader.closed ≡ false) where
  abbrev setup : Setup
  setup = setup_of seat.lock

  abbrev mine : List Entry
  mine = history_of seat.mine

  abbrev draft : Draft
  draft = (was setup mine text reader after stands opened).draft

  so : draft_so_far setup mine reader.pending ≡ draft
  so = so_far setup mine text reader after stands opened

  pub read_alone : (reply : Reply) → Edits setup draft text reader after (Read reply)
      → IsReadAlone text reply (session_view seat reader) (session_view seat after)
  read_alone reply edits =
      let none : entry_of_line setup (draft_so_far setup mine reader.pending) text ≡ None = ap (λ d. entry_of_line setup d text) so ∙ sym edits.2.kind in
      let view : session_view seat after ≡ record (session_view seat reader) { pending = reader.pending ++ calls_of_line text } =
      ap (session_view seat) edits.1 in
      record {
        alone = λ still. none;
        reads = λ number.
            let R : Bool → Type 0 = SessionReads number text reply (session_view seat reader) (session_view seat after) in
            let M : Option EntryKind → Type 0 = SessionMakes number text reply (session_view seat reader) (session_view seat after) in
            subst R (sym opened) (subst M (sym none) (edits.0, view));
        follows = λ given number has. waits_more setup given number text mine reader after has opened draft
            (was setup mine text reader after stands opened).made none edits.1;
      }

  pub come_back : (back : SessionLine) → Edits setup draft text reader after (Unread back)
      → IsUnread text back (session_view seat reader) (session_view seat after)
  come_back back edits = record {
    opened = opened;
    enters = ap (λ d. is_some (entry_of_line setup d text)) so ∙ edits.2;
    same_line = edits.0;
    same_seat = ap (session_view seat) edits.1;
  }

  pub seat_edits : (edit : EditOutcome) → Edits setup draft text reader after edit → SeatEdits text (session_view seat reader) (session_view seat after) edit
  seat_edits (Read reply) edits = read_alone reply edits
  seat_edits (Unread back) edits = come_back back edits

  -- the session stands as before, or with its call behind those that wait
  pub edited_stands : is_played_line setup reader.session text ≡ true → (edit : EditOutcome) → Edits setup draft text reader after edit
      → Stands setup mine after
  edited_stands played (Read reply) edits = stands_waiting setup mine text reader after stands opened played edits.1 edits.2
  edited_stands played (Unread back) edits = let S : SessionReader → Type 0 = Stands setup mine in subst S (sym edits.1) stands

  pub same_session : (edit : EditOutcome) → Edits setup draft text reader after edit → after.session ≡ reader.session
  same_session (Read reply) edits = ap (λ (r : SessionReader). r.session) edits.1
  same_session (Unread back) edits = ap (λ (r : SessionReader). r.session) edits.1

  -- and the seat is one with its reader
  pub edited_one : {E : Type 0} (result : Result EditOutcome E) → AreAtOne seat reader → is_played_line setup reader.session text ≡ true
      → IfOk result (Edits setup draft text reader after) → OnErr result (after ≡ reader) → AreOne seat after
  edited_one (Ok edit) at_one played edits same = record {
    at_one = at_one_same seat reader after at_one (same_session edit edits);
    stands = λ unended. edited_stands played edit edits;
  }
  edited_one (Err e) at_one played edits same = let O : SessionReader → Type 0 =
      AreOne seat in subst O (sym same) (record { at_one = at_one; stands = λ unended. stands })

-- a line of a closed session is counted
pub read_closed : (seat : Seat) (reader after : SessionReader) (text : SessionLine) (reply : Reply) → reader.closed ≡ true → reply ≡ Closed None None
    → after ≡ record reader { refused = reader.refused + 1 } → IsReadAlone text reply (session_view seat reader) (session_view seat after)
read_closed seat reader after text reply closed answer rest = record {
  alone = λ opened. absurd (let both : true ≡ false = sym closed ∙ opened in cc);
  reads = λ number.
      let R : Bool → Type 0 = SessionReads number text reply (session_view seat reader) (session_view seat after) in
      subst R (sym closed) (answer, ap (session_view seat) rest);
  follows = λ given number has. refused_more (setup_of seat.lock) given number text (history_of seat.mine) reader after has closed rest;
}

-- what a line leaves of a seat that it makes no entry of
pub goes_edited : (text : SessionLine) (old new : SessionView) (edit : EditOutcome) → SeatEdits text old new edit → GoesOn old new
goes_edited text old new (Read reply) edits = goes_on old new {E = ⊤} 0 text (Ok reply) (edits.reads 0) tt
goes_edited text old new (Unread back) edits = let G : SessionView → Type 0 = GoesOn old in subst G (sym edits.same_seat) (goes_same old)
