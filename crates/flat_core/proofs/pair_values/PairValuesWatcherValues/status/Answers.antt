use Rattle.std.proofs.Common.{sym, ◌∙◌}
use Rattle.flat_gets.proofs.lemmas.GetPosts.{undeclared-untold}
use Rattle.flat_core.proofs.PairValueSteps.{unknown}
use Rattle.flat_core.proofs.pair_values.PairValuesWatcherValues.status.Goals as goal

pub returns-else-knows : goal.returns-else-knows
returns-else-knows c = λ setup history stands. sym (undeclared-untold setup history stands.legal c.args.p
    (unknown _ _ _ _ setup history stands c.args.p (sym c.knows.ensures ∙ c.if-knows.false))).1.0
