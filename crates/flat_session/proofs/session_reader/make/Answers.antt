use Rattle.std.proofs.Common.{subst, Option}
use Rattle.flat_scene.specs.declared.calls.Call.{Call}
use Rattle.flat_session.specs.Reads.{CanMake}
use Rattle.flat_session.proofs.lemmas.Readying.{never_refused}
use Rattle.flat_session.proofs.session_reader.make.Goals as goal

pub unreachable-requires : goal.unreachable-requires
unreachable-requires c =
    let C : Option Call → Type 0 = CanMake c.args.draft.now in
    let can = subst C c.in-Some.is c.requires in
    never_refused can.2.0 can.2.1.0 c.in-Some.call c.args.draft.now c.call.new.self c.call.result c.in-Err.field-0
    (c.call.ensures.answered can.2.0 can.2.1.0 can.2.1.1) c.call.ensures.room can.0 can.1 can.2.1.2 c.in-Err.is
