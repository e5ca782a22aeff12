use Rattle.std.proofs.Common.{◌≡◌, true, List, ap, ◌∙◌, subst, IfOk}
use Rattle.flat_scene.specs.declared.journal.Entry.{Entry}
use Rattle.flat_scene.specs.declared.setup.Setup.{Setup}
use Rattle.flat_scene.specs.Journals.{history_of}
use Rattle.flat_rules.specs.Owned.{is_played_line}
use Rattle.flat_session.specs.declared.session_reader.SessionReader.{SessionReader}
use Rattle.flat_stage.specs.Readings.{IsReadAlone, SeatEdits}
use Rattle.flat_session.specs.Reads.{Edits, Stands}
use Rattle.flat_stage.specs.Seats.{Seat, SessionView, is_ended, session_view, setup_of}
use Rattle.flat_stage.proofs.Editing.{edited_one, read_closed, seat_edits}
use Rattle.flat_session.proofs.lemmas.Outcomes.{if_ok}
use Rattle.flat_session.proofs.lemmas.Standing.{was}
use Rattle.flat_stage.proofs.session.SessionSeat.edit.Goals as goal

pub returns-then-self-clause-edits : goal.returns-then-self-clause-edits
returns-then-self-clause-edits c =
    let seat : Seat = c.self.inside.seat in
    let reader : SessionReader = c.self.inside.reader in
    let after : SessionReader = c.refuse.new.self in
    let V : SessionView → Type 0 = λ v. IsReadAlone c.args.text c.refuse.result v (session_view seat after) in
    subst V c.self.view_is (read_closed seat reader after c.args.text c.refuse.result c.if-self.true c.refuse.ensures.reply c.refuse.ensures.rest)

pub invariant_of-self-2 : goal.invariant_of-self-2
invariant_of-self-2 c =
    let seat : Seat = c.self.inside.seat in
    let reader : SessionReader = c.self.inside.reader in
    let after : SessionReader = c.edit.new.self in
    let setup : Setup = setup_of seat.lock in
    let mine : List Entry = history_of seat.mine in
    let stands : Stands setup mine reader = c.self.invariant.stands (ap (λ (v : SessionView). is_ended v.mine) c.self.view_is ∙ c.requires.unended) in
    let owned : is_played_line setup reader.session c.args.text ≡ true =
    ap (λ (v : SessionView). is_played_line (setup_of v.stage) v.session c.args.text) c.self.view_is ∙ c.requires.owned in
    let before = was setup mine c.args.text reader after stands c.if-self.false in
    edited_one seat reader after c.args.text stands c.if-self.false c.edit.result c.self.invariant.at_one owned
    (c.edit.ensures.edits setup before.draft before.stands owned) c.edit.ensures.same

pub returns-clause-edits : goal.returns-clause-edits
returns-clause-edits c =
    let seat : Seat = c.self.inside.seat in
    let reader : SessionReader = c.self.inside.reader in
    let after : SessionReader = c.edit.new.self in
    let setup : Setup = setup_of seat.lock in
    let mine : List Entry = history_of seat.mine in
    let stands : Stands setup mine reader = c.self.invariant.stands (ap (λ (v : SessionView). is_ended v.mine) c.self.view_is ∙ c.requires.unended) in
    let owned : is_played_line setup reader.session c.args.text ≡ true =
    ap (λ (v : SessionView). is_played_line (setup_of v.stage) v.session c.args.text) c.self.view_is ∙ c.requires.owned in
    let before = was setup mine c.args.text reader after stands c.if-self.false in
    let V : SessionView → Type 0 = λ v. IfOk c.edit.result (SeatEdits c.args.text v (session_view seat after)) in
    subst V c.self.view_is
    (if_ok (Edits setup before.draft c.args.text reader after) (SeatEdits c.args.text (session_view seat reader) (session_view seat after)) c.edit.result
    (seat_edits seat reader after c.args.text stands c.if-self.false) (c.edit.ensures.edits setup before.draft before.stands owned))
