-- One line more is read by the seat of a session.
use Rattle.std.proofs.Common.{◌≡◌, ℕ, false, List, [], ◌∷◌, ◌++◌, refl, sym, ap, ◌∙◌, subst, arith, Some}
use Rattle.std.specs.List.{list_any}
use Rattle.flat_scene.specs.declared.journal.Entry.{Entry}
use Rattle.flat_scene.specs.declared.journal.EntryKind.{EntryKind}
use Rattle.flat_scene.specs.declared.journal.Reply.{Reply}
use Rattle.flat_scene.specs.declared.script.SessionLine.{SessionLine}
use Rattle.flat_scene.specs.declared.setup.Setup.{Setup}
use Rattle.flat_scene.specs.Draft.{empty_draft}
use Rattle.flat_scene.specs.History.{◌▹◌, closes}
use Rattle.flat_scene.specs.Journals.{history_of}
use Rattle.flat_scene.specs.Interleave.{next_from, entry_of_line, calls_of_line}
use Rattle.flat_session.specs.declared.session_reader.SessionReader.{SessionReader}
use Rattle.std.proofs.lemmas.List.{reverse-append}
use Rattle.flat_stage.specs.Seats.{Seat, SessionView, SessionEnters, session_view, session_entry, setup_of}
use Rattle.flat_stage.specs.Readings.{SeatHasRead, NewSeatsHaveRead}
use Rattle.flat_session.specs.Readings.{HasRead}
use Rattle.flat_session.specs.Reads.{draft_so_far}
use Rattle.flat_session.proofs.lemmas.Following.{later_all, enters_more}

-- one entry more, the newest first
pub newest : (mine mine_then : List Entry) (entry : Entry) → mine_then ≡ mine ++ entry ∷ [] → history_of mine_then ≡ (history_of mine ▹ entry)
newest mine mine_then entry is = ap history_of is ∙ reverse-append mine (entry ∷ [])

pub seat_enters_more : (given : List (ℕ × SessionLine)) (number : ℕ) (text : SessionLine) (seat_given : Seat) (seat : Seat) (before after : SessionReader)
    (kind : EntryKind)
    (reply : Reply) → HasRead (setup_of seat.lock) given (history_of seat.mine) before → before.closed ≡ false → before.refused ≡ 0
    → list_any (λ e. closes e.reply) (history_of seat.mine) ≡ false
    → entry_of_line (setup_of seat.lock) (draft_so_far (setup_of seat.lock) (history_of seat.mine) before.pending) text ≡ Some kind
    → SessionEnters number (before.pending ++ calls_of_line text) kind reply (session_view seat before) (session_view seat_given after)
    → SeatHasRead (given ++ (number, text) ∷ []) (session_view seat_given after)
seat_enters_more given number text seat_given seat before after kind reply has opened none_refused unclosed some enters =
    let setup : Setup = setup_of seat.lock in
    let entry : Entry = session_entry (session_view seat before) number (before.pending ++ calls_of_line text) kind reply in
    let H : List Entry → Type 0 = λ es. HasRead setup (given ++ (number, text) ∷ []) es after in
    let S : Setup → Type 0 = λ s. HasRead s (given ++ (number, text) ∷ []) (history_of seat_given.mine) after in
    subst S (sym (ap (λ (v : SessionView). setup_of v.stage) enters.rest)) (subst H (sym (newest seat.mine seat_given.mine entry enters.one.one_more))
    (enters_more setup given number text (history_of seat.mine) before after has opened none_refused unclosed kind reply entry some refl refl refl refl
    (ap (λ (v : SessionView). v.pending) enters.rest) (ap (λ (v : SessionView). v.closed) enters.rest) (ap (λ (v : SessionView). v.refused) enters.rest)))

pub new_seats_have_read : NewSeatsHaveRead
new_seats_have_read stage s = record {
  follows = λ count later rise. tt;
  next = λ count later rise. ap (next_from (setup_of stage) count empty_draft []) (later_all 0 0 later (omega arith) rise);
}
