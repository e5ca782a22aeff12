use Rattle.std.proofs.Common.{◌≡◌, true, false, Some, None, Option, sym, ap, ◌∙◌, subst}
use Rattle.std.specs.Arc.{arc_value}
use Rattle.flat_base.specs.declared.ids.SessionNo.{SessionNo}
use Rattle.flat_scene.specs.declared.script.SessionLine.TheVariants as line
use Rattle.flat_scene.specs.declared.setup.Setup.{Setup}
use Rattle.flat_rules.specs.Owned.{is_played_call}
use Rattle.flat_session.specs.declared.session_reader.EditOutcome.{EditOutcome}
use Rattle.flat_stage.specs.Readings.{IsReadAlone, SeatEdits}
use Rattle.flat_stage.specs.Seats.{SessionView, setup_of}
use Rattle.flat_client.specs.Clients.{ClientView, IsFree, IsWaiting, may_say}
use Rattle.flat_client.proofs.Standing.{answers_waiting, none_owed, stands_waiting, waits_now}
use Rattle.flat_client.proofs.client.Client.edit.Goals as goal

pub invariant_of-self : goal.invariant_of-self
invariant_of-self c =
    let old : ClientView = record { seat = c.self.inside.seat; owed = c.self.inside.owed; cause = (c.self.inside.error, c.self.inside.reason) } in
    let none : old.owed ≡ None = none_owed c.self.inside.owed (sym c.if-is_some.ensures) in
    let opened : old.seat.closed ≡ false = sym c.if-is_closed.ensures in
    let E : EditOutcome → Type 0 = SeatEdits (line.Call c.args.call) c.self.inside.seat c.edit.new.self in
    let alone : IsReadAlone (line.Call c.args.call) c.in-Ok-Read.field-0-0 c.self.inside.seat c.edit.new.self =
    subst E c.in-Ok-Read.field-0-is c.in-Ok-Read.ensures.edits in
    stands_waiting (arc_value c.self.inside.stage) (arc_value c.self.inside.setup) c.self.inside.share c.self.inside.made old c.self.invariant c.edit.new.self
    _ none
    (waits_now c.args.call c.in-Ok-Read.field-0-0 c.self.inside.seat c.edit.new.self opened alone)

pub returns-in-Ok-Read-clause-answers : goal.returns-in-Ok-Read-clause-answers
returns-in-Ok-Read-clause-answers c =
    let old : ClientView = record { seat = c.self.inside.seat; owed = c.self.inside.owed; cause = (c.self.inside.error, c.self.inside.reason) } in
    let none : old.owed ≡ None = none_owed c.self.inside.owed (sym c.if-is_some.ensures) in
    let opened : old.seat.closed ≡ false = sym c.if-is_closed.ensures in
    let E : EditOutcome → Type 0 = SeatEdits (line.Call c.args.call) c.self.inside.seat c.edit.new.self in
    let alone : IsReadAlone (line.Call c.args.call) c.in-Ok-Read.field-0-0 c.self.inside.seat c.edit.new.self =
    subst E c.in-Ok-Read.field-0-is c.in-Ok-Read.ensures.edits in
    let setup : setup_of c.self.inside.seat.stage ≡ c.deref.result.now = cc in
    let session : c.self.inside.seat.session ≡ c.session.result = cc in
    let own : is_played_call (setup_of c.self.inside.seat.stage) c.self.inside.seat.session c.args.call ≡ true =
    ap (λ (st : Setup). is_played_call st c.self.inside.seat.session c.args.call) setup
    ∙ ap (λ (s : SessionNo). is_played_call c.deref.result.now s c.args.call) session ∙ sym c.if-not-may_call.ensures in
    let new : ClientView = record old { seat = c.edit.new.self } in
    let W : ClientView → Type 0 = λ v. IsWaiting c.args.call v new in
    subst W c.self.view_is (answers_waiting c.args.call c.in-Ok-Read.field-0-0 old c.edit.new.self (record { opened = opened; nothing_owed = none }) own alone)
