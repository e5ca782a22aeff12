use Rattle.std.proofs.Common.{rules, not}
use Rattle.std.specs.Prelude.{◌==◌}
use Rattle.std.proofs.lemmas.Fn.{filter_same}
use Rattle.flat_facts.proofs.lives.drop_named.Goals as goal

pub returns-clause-live : goal.returns-clause-live
returns-clause-live c = filter_same _ (λ one. not (one.name.0 == c.args.name.0)) _ (λ x b f' t. search rules) _ _ c.retain.ensures.filtered
