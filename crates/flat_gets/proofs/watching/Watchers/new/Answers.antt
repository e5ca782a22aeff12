use Rattle.std.proofs.Common.{◌∙◌}
use Rattle.flat_gets.proofs.lemmas.WatchingSteps.{due-none, watched-new}
use Rattle.flat_gets.proofs.watching.Watchers.new.Goals as goal

pub returns-clause-watched : goal.returns-clause-watched
returns-clause-watched c =
    watched-new c.args.setup.now _ (c.in_ok-pairs.ensures.count ∙ c.len.ensures) c.in_ok-sessions.ensures.count c.in_ok-pairs.ensures.none
    c.in_ok-sessions.ensures.none

pub returns-clause-none : goal.returns-clause-none
returns-clause-none c = due-none c.in_ok-pairs.pairs.items c.in_ok-pairs.ensures.none
