use Rattle.std.proofs.Common.{◌+◌, subst, OnOk}
use Rattle.flat_base.specs.declared.ids.FrameNo.{FrameNo}
use Rattle.flat_scene.specs.declared.frames.ViewTree.{ViewTree}
use Rattle.flat_report.specs.FrameTexts.{unchanged}
use Rattle.flat_play.specs.Keeping.{KeepsMore}
use Rattle.flat_play.proofs.Unchanged.{kept-unchanged}
use Rattle.flat_play.proofs.store.FrameStore.keep_unchanged.Goals as goal

pub returns-clause-keeps : goal.returns-clause-keeps
returns-clause-keeps c = λ frames last keeps is.
    let script = c.args.script.now in
    let self = c.args.self.now in
    let number : FrameNo = record { 0 = self.last.frame.0 + 1 } in
    let M : ViewTree → Type 0 = λ tree. OnOk c.keep_unchanged.result (KeepsMore script (unchanged number tree last) self.kept c.keep_unchanged.new.self) in
    subst M (c.in_ok-tree.ensures script frames last keeps is)
    (kept-unchanged script number c.in_ok-tree.tree self.kept c.keep_unchanged.new.self frames last c.keep_unchanged.result keeps is c.keep_unchanged.ensures)
