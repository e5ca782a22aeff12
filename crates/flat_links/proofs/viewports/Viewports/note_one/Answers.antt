use Rattle.std.proofs.Common.{sym, ◌∙◌}
use Rattle.flat_links.proofs.Marks.{plain-lives, plain-marks, unmarked, marked-release}
use Rattle.flat_links.proofs.viewports.Viewports.note_one.Goals as goal

pub returns-in-Clear-clause-out : goal.returns-in-Clear-clause-out
returns-in-Clear-clause-out c = rw c.in-Clear.is (sym (unmarked c.args.presents c.args.self.now.out.items))

pub returns-in-ReleaseViewport-clause-out : goal.returns-in-ReleaseViewport-clause-out
returns-in-ReleaseViewport-clause-out c =
    rw c.in-ReleaseViewport.is (c.release.ensures.out ∙ marked-release c.args.self.now.live.items c.in-ReleaseViewport.c c.args.presents
    c.args.self.now.out.items)

pub returns-in_default-clause-live : goal.returns-in_default-clause-live
returns-in_default-clause-live c = plain-lives c.args.self.now.live.items c.args.call.now c.requires c.in_default.not-ReleaseViewport c.in_default.not-Clear

pub returns-in_default-clause-out : goal.returns-in_default-clause-out
returns-in_default-clause-out c = plain-marks c.args.self.now.live.items c.args.call.now c.args.presents c.args.self.now.out.items
    c.in_default.not-ReleaseViewport
