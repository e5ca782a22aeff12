use Rattle.std.proofs.Common.{rules, not}
use Rattle.std.specs.Prelude.{◌==◌}
use Rattle.std.proofs.lemmas.Fn.{filter_same}
use Rattle.flat_content.proofs.table.drop_use.Goals as goal

pub returns-clause-items : goal.returns-clause-items
returns-clause-items c = filter_same _ (λ other. not (other == c.args.serial)) _ (λ x b f' t. search rules) _ _ c.retain.ensures.filtered
