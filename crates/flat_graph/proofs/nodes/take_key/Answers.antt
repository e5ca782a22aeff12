use Rattle.std.proofs.Common.{rules, not, ap, ◌∙◌}
use Rattle.std.specs.Prelude.{◌==◌, ℕ, filter}
use Rattle.std.proofs.lemmas.Fn.{filter_same}
use Rattle.flat_graph.proofs.nodes.take_key.Goals as goal

pub returns-clause-taken : goal.returns-clause-taken
returns-clause-taken c is =
    c.from_vec.ensures ∙ filter_same _ (λ other. not (other == c.args.key)) _ (λ x b f' t. search rules) _ _ c.retain.ensures.filtered
    ∙ ap (filter (λ (other : ℕ). not (other == c.args.key))) (c.into_vec-inner.ensures ∙ c.replace.ensures.value)
