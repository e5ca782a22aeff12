use Rattle.std.proofs.Common.{List, sym, subst}
use Rattle.flat_base.specs.declared.ids.Actor.TheVariants.{Session}
use Rattle.flat_scene.specs.declared.calls.Call.{Call}
use Rattle.flat_scene.specs.declared.journal.EntryKind.TheVariants.{End}
use Rattle.flat_core.specs.Machines.{MayCall}
use Rattle.flat_session.proofs.Ending.{may_end_as}
use Rattle.flat_session.proofs.session_reader.SessionReader.end.Goals as goal

pub end-requires : goal.end-requires
end-requires c =
    let C : List Call → Type 0 = λ calls. MayCall c.args.board.now (Session c.args.self.now.session) calls (End c.args.self.now.refused) in
    subst C (sym c.replace-calls.ensures.value) (may_end_as c.args.board.now c.args.self.now c.requires.share c.requires.stands)
