use Rattle.std.proofs.Common.{rules, ◌≡◌, false, arith}
use Rattle.flat_scene.specs.History.{is_finish}
use Rattle.flat_judge.specs.Following.{Stays}
use Rattle.flat_judge.proofs.OneMore.{shown-none}
use Rattle.flat_judge.proofs.following.ReplayProgress.tell_shown.Goals as goal

pub returns-in_default-clause-tells : goal.returns-in_default-clause-tells
returns-in_default-clause-tells c = λ before is line.
    let other : is_finish c.args.entry.now.kind ≡ false = search rules in
    Stays.stays (shown-none c.args.script.now c.args.text.now before c.args.entry.now c.args.self.now other line) (omega arith)
