use Rattle.std.proofs.Common.{◌≡◌, ◌∙◌, ap, arith, map}
use Rattle.flat_page.specs.Happenings.{said, finished}
use Rattle.flat_focus.specs.Chains.{Focusing}
use Rattle.flat_page.proofs.lemmas.Telling.{then_one, after_one}
use Rattle.flat_focus.specs.Steps.{lines_with, after}
use Rattle.flat_focus.proofs.Telling.{sessions-stay}
use Rattle.flat_focus.proofs.text.push_done.Goals as goal

pub push_frame-requires : goal.push_frame-requires
push_frame-requires c =
    let same : c.push_asks.new.focus.sessions ≡ c.args.focus.now.sessions =
    ap (λ (f : Focusing). f.sessions) c.in_ok-push_asks.ensures.after ∙ sessions-stay (map said c.args.early.now) c.args.focus.now in
    omega arith

pub returns-clause-text : goal.returns-clause-text
returns-clause-text c =
    then_one (lines_with c.args.names.now) after c.args.focus.now c.push_asks.new.focus (map said c.args.early.now) (finished c.args.frame.now)
    c.in_ok-push_asks.ensures.after c.in_ok-push_asks.ensures.text
    c.in_ok-push_frame.ensures.text

pub returns-clause-after : goal.returns-clause-after
returns-clause-after c =
    after_one after c.args.focus.now c.push_asks.new.focus c.push_frame.new.focus (map said c.args.early.now) (finished c.args.frame.now)
    c.in_ok-push_asks.ensures.after c.in_ok-push_frame.ensures.after
