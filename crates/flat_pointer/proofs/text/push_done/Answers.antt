use Rattle.std.proofs.Common.{map}
use Rattle.flat_page.specs.Happenings.{said, finished}
use Rattle.flat_page.proofs.lemmas.Telling.{then_one, after_one}
use Rattle.flat_pointer.specs.Steps.{lines_with, after}
use Rattle.flat_pointer.proofs.text.push_done.Goals as goal

pub returns-clause-text : goal.returns-clause-text
returns-clause-text c =
    then_one (lines_with c.args.names.now) after c.args.pointers.now c.push_touches.new.pointers (map said c.args.early.now) (finished c.args.frame.now)
    c.in_ok-push_touches.ensures.after c.in_ok-push_touches.ensures.text c.in_ok-push_frame.ensures.text

pub returns-clause-after : goal.returns-clause-after
returns-clause-after c =
    after_one after c.args.pointers.now c.push_touches.new.pointers c.push_frame.new.pointers (map said c.args.early.now) (finished c.args.frame.now)
    c.in_ok-push_touches.ensures.after c.in_ok-push_frame.ensures.after
