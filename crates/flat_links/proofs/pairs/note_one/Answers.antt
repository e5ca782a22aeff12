use Rattle.flat_links.proofs.ViewMarks.{ends-release, ends-clear, ends-other}
use Rattle.flat_links.proofs.pairs.note_one.Goals as goal

pub returns-in-ReleaseView : goal.returns-in-ReleaseView
returns-in-ReleaseView c = rw c.in-ReleaseView.is (ends-release _ _ _ _ c.end_view.ensures)

pub returns-in-Clear : goal.returns-in-Clear
returns-in-Clear c = rw c.in-Clear.is (ends-clear _ _ _ _ c.end_view-in-Clear.ensures)

pub returns-in_default : goal.returns-in_default
returns-in_default c = ends-other c.args.view c.args.call.now c.args.presents c.args.pairs.now c.in_default.not-ReleaseView c.in_default.not-Clear
