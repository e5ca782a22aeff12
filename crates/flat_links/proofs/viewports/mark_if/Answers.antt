use Rattle.std.proofs.Common.{sym}
use Rattle.flat_links.proofs.Marks.{unmarked}
use Rattle.flat_links.proofs.viewports.mark_if.Goals as goal

pub returns-in-None : goal.returns-in-None
returns-in-None c = rw c.in-None.is (sym (unmarked c.args.presents c.args.out.now))
