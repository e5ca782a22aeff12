-- What came of a line before its entry is made, and what the line came to.
use Rattle.std.proofs.Common.{◌≡◌, ℕ, ◌+◌, Bool, true, false, List, ◌++◌, refl, sym, ap, ◌∙◌, subst, Option, Some, None}
use Rattle.flat_scene.specs.declared.journal.Entry.{Entry}
use Rattle.flat_scene.specs.declared.journal.EntryKind.{EntryKind}
use Rattle.flat_scene.specs.declared.journal.Reply.{Reply}
use Rattle.flat_scene.specs.declared.journal.Reply.TheVariants.{Done, Closed}
use Rattle.flat_scene.specs.declared.script.SessionLine.{SessionLine}
use Rattle.flat_scene.specs.declared.setup.Setup.{Setup}
use Rattle.flat_scene.specs.History.{own}
use Rattle.flat_scene.specs.Interleave.{calls_of_line, entry_of_line}
use Rattle.flat_core.specs.Machines.{Machine}
use Rattle.flat_rules.specs.Owned.{is_played_line}
use Rattle.flat_session.specs.declared.requested_entry.RequestedEntry.{RequestedEntry}
use Rattle.flat_session.specs.declared.session_reader.SessionReader.{SessionReader}
use Rattle.flat_session.specs.Made.{kind_of, takes_memory}
use Rattle.flat_session.specs.Prepared.{IsRefused, IsWaiting, IsPreparedFor}
use Rattle.flat_session.specs.Reads.{Stands, Tells, Enters, Makes, Reads, kept_calls, viewport_call, with_line}
use Rattle.flat_session.proofs.lemmas.Standing.{was, so_far, is_ready, kept_are, stands_refused, stands_waiting}

-- ---- a line is prepared

module _ (setup : Setup) (mine : List Entry) (text : SessionLine) (old new : SessionReader) (stands : Stands setup mine old) where
  pub refused : old.closed ≡ true → new ≡ record old { refused = old.refused + 1 } → IsRefused setup mine text old new (Closed None None)
  refused closed rest =
      let S : SessionReader → Type 0 = λ r. Stands setup mine r in
      record { closed = closed; answer = refl; rest = rest; stands = subst S (sym rest) (stands_refused setup mine old closed stands) }

  module _ (opened : old.closed ≡ false) (rest : new ≡ with_line text old new.draft) where
    pub waiting : is_played_line setup old.session text ≡ true
        → Tells setup old.session (was setup mine text old new stands opened).draft text new.draft None → IsWaiting setup mine text old new Done
    waiting played tells = record {
      opened = opened;
      answer = refl;
      rest = rest;
      none = ap (λ d. entry_of_line setup d text) (so_far setup mine text old new stands opened) ∙ sym tells.kind;
      stands = stands_waiting setup mine text old new stands opened played rest tells;
    }

    pub prepared_for : (one : RequestedEntry) → Tells setup old.session (was setup mine text old new stands opened).draft text new.draft (Some one)
        → IsPreparedFor setup mine text old new one
    prepared_for one tells = record {
      opened = opened;
      rest = rest;
      some = ap (λ d. entry_of_line setup d text) (so_far setup mine text old new stands opened) ∙ sym tells.kind;
      ready = is_ready setup mine text old new stands opened one rest tells;
      kept = λ takes. ap (λ (r : SessionReader). kept_calls (viewport_call one) r.pending) rest
          ∙ kept_are setup old.session (was setup mine text old new stands opened).draft old.pending (old.pending ++ calls_of_line text) new.draft one
          (tells.leaves old.pending) takes;
    }

-- ---- what the line came to

-- the entry of a line carries the calls that waited and that of the line
pub enters_line : (number : ℕ) (text : SessionLine) (kind : EntryKind) (reply : Reply) (board board_then : Machine) (old prepared after : SessionReader)
    → prepared ≡ with_line text old prepared.draft → Enters number kind reply board board_then prepared after
    → Enters number kind reply board board_then (with_line text old old.draft) after
enters_line number text kind reply board board_then old prepared after rest enters =
    let P : SessionReader → Type 0 = λ r. Enters number kind reply board board_then r after in
    let e : Enters number kind reply board board_then (with_line text old prepared.draft) after = subst P rest enters in
    record { replied = e.replied; entry = e.entry; events = e.events; rest = e.rest }

module _ (number : ℕ) (text : SessionLine) (board : Machine) (old prepared : SessionReader) where
  abbrev own_entries : List Entry
  own_entries = own old.session board.history

  pub refused_reads : (reply : Reply) → IsRefused board.setup own_entries text old prepared reply → Reads number text reply board board old prepared old.closed
  refused_reads reply is =
      let C : Bool → Type 0 = Reads number text reply board board old prepared in
      subst C (sym is.closed) (is.answer, refl, is.rest)

  pub waiting_reads : (reply : Reply) → IsWaiting board.setup own_entries text old prepared reply → Reads number text reply board board old prepared old.closed
  waiting_reads reply is =
      let C : Bool → Type 0 = Reads number text reply board board old prepared in
      let K : Option EntryKind → Type 0 = Makes number text reply board board old prepared in
      subst C (sym is.opened) (subst K (sym is.none) (is.answer, refl, is.rest))

  pub entered_reads : (one : RequestedEntry) (reply : Reply) (board_then : Machine) (after : SessionReader)
      → IsPreparedFor board.setup own_entries text old prepared one
      → Enters number (kind_of one) reply board board_then prepared after → Reads number text reply board board_then old after old.closed
  entered_reads one reply board_then after is enters =
      let C : Bool → Type 0 = Reads number text reply board board_then old after in
      let K : Option EntryKind → Type 0 = Makes number text reply board board_then old after in
      subst C (sym is.opened)
      (subst K (sym is.some) (enters_line number text (kind_of one) reply board board_then old prepared after is.rest enters))

-- after a line for which there was no memory the session is as it was, but for the room of its draft
pub kept_line : (setup : Setup) (mine : List Entry) (text : SessionLine) (old prepared after : SessionReader) (one : RequestedEntry)
    → IsPreparedFor setup mine text old prepared one → takes_memory one ≡ true
    → after ≡ record prepared { pending = kept_calls (viewport_call one) prepared.pending } → after ≡ record old { draft = after.draft }
kept_line setup mine text old prepared after one is takes kept =
    let so : after ≡ record old { draft = prepared.draft } =
    kept ∙ ap (λ pending. let t : SessionReader = record prepared { pending = pending } in t) (is.kept takes)
    ∙ ap (λ (r : SessionReader). let t : SessionReader = record r { pending = old.pending } in t) is.rest in
    so ∙ ap (λ d. let t : SessionReader = record old { draft = d } in t) (sym (ap (λ (r : SessionReader). r.draft) so))
