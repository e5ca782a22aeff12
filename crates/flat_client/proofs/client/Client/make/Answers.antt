use Rattle.std.proofs.Common.{◌≡◌, ◌+◌, true, false, Some, None, refl, sym, ap, ◌∙◌, subst}
use Rattle.std.specs.Arc.{arc_value}
use Rattle.flat_scene.specs.declared.journal.Reply.{Reply}
use Rattle.flat_scene.specs.declared.journal.Reply.TheVariants.{Closed}
use Rattle.flat_stage.specs.Seats.{SessionReads}
use Rattle.flat_client.specs.Clients.{Cause, ClientView, IsClient, MakesEntry, cause_then}
use Rattle.flat_client.proofs.Standing.{made_now, same_cause, seen_from, stands_now}
use Rattle.flat_client.proofs.client.Client.make.Goals as goal

pub invariant_of-self-in_default : goal.invariant_of-self-in_default
invariant_of-self-in_default g c =
    let old : ClientView = record { seat = c.self.inside.seat; owed = c.self.inside.owed; cause = (c.self.inside.error, c.self.inside.reason) } in
    let view : ClientView = c.args.self.now in
    let stage = arc_value c.self.inside.stage in
    let setup = arc_value c.self.inside.setup in
    let because : old.cause ≡ cause_then c.in_ok-reply.reply old.cause =
    same_cause c.in_ok-reply.reply old.cause (λ why. c.in_default.not-Closed why.0 why.1) in
    let makes : MakesEntry c.args.text c.in_ok-reply.reply old (record { seat = c.call.new.self; owed = None; cause = old.cause }) =
    made_now stage setup c.self.inside.share c.self.inside.made old view c.self.invariant c.self.view_is c.args.text c.in_ok-reply.reply c.call.new.self
    old.cause c.requires.opened c.requires.own c.requires.enters c.in_ok-reply.ensures.reads because in
    stands_now stage setup c.self.inside.share c.self.inside.made old view c.self.invariant c.self.view_is c.args.text c.in_ok-reply.reply c.call.new.self
    old.cause c.requires.room c.in_ok-reply.ensures.goes_on.ended makes

pub returns-in-Closed-clause-makes : goal.returns-in-Closed-clause-makes
returns-in-Closed-clause-makes g c =
    let old : ClientView = record { seat = c.self.inside.seat; owed = c.self.inside.owed; cause = (c.self.inside.error, c.self.inside.reason) } in
    let view : ClientView = c.args.self.now in
    let stage = arc_value c.self.inside.stage in
    let setup = arc_value c.self.inside.setup in
    let answer : Reply = Closed c.in-Closed.error c.in-Closed.reason in
    let cause : Cause = (c.in-Closed.error, c.in-Closed.reason) in
    let R : Reply → Type 0 = λ r. SessionReads (c.self.inside.made + 1) c.args.text r old.seat c.call.new.self old.seat.closed in
    let reads : R answer = subst R c.in-Closed.is c.in_ok-reply.ensures.reads in
    seen_from stage setup c.self.inside.share c.self.inside.made old view c.self.invariant c.self.view_is c.args.text answer
    (record { seat = c.call.new.self; owed = None; cause = cause })
    (made_now stage setup c.self.inside.share c.self.inside.made old view c.self.invariant c.self.view_is c.args.text answer c.call.new.self cause
    c.requires.opened c.requires.own c.requires.enters reads refl)

pub returns-in_default : goal.returns-in_default
returns-in_default g c =
    let old : ClientView = record { seat = c.self.inside.seat; owed = c.self.inside.owed; cause = (c.self.inside.error, c.self.inside.reason) } in
    let view : ClientView = c.args.self.now in
    let stage = arc_value c.self.inside.stage in
    let setup = arc_value c.self.inside.setup in
    let because : old.cause ≡ cause_then c.in_ok-reply.reply old.cause =
    same_cause c.in_ok-reply.reply old.cause (λ why. c.in_default.not-Closed why.0 why.1) in
    let makes : MakesEntry c.args.text c.in_ok-reply.reply old (record { seat = c.call.new.self; owed = None; cause = old.cause }) =
    made_now stage setup c.self.inside.share c.self.inside.made old view c.self.invariant c.self.view_is c.args.text c.in_ok-reply.reply c.call.new.self
    old.cause c.requires.opened c.requires.own c.requires.enters c.in_ok-reply.ensures.reads because in
    record {
      makes = seen_from stage setup c.self.inside.share c.self.inside.made old view c.self.invariant c.self.view_is c.args.text c.in_ok-reply.reply
          (record { seat = c.call.new.self; owed = None; cause = old.cause }) makes;
      kept = tt;
    }
