use Rattle.std.proofs.Common.{◌∙◌, rules, tests}
use Rattle.std.proofs.lemmas.Iterator.{items_from_collect, YieldsList-from_slice}
use Rattle.std.proofs.lemmas.Iterator.Consumers.{YieldsList-from_filter_map}
use Rattle.flat_base.specs.declared.ids.TransformId.{TransformId}
use Rattle.flat_graph.specs.Names.{key_named}
use Rattle.flat_graph.proofs.names.keys_of.Goals as goal

pub returns : goal.returns
returns c =
    let collected = items_from_collect {s = c.filter_map.result} c.collect.result c.collect.ensures.ran
    (YieldsList-from_filter_map _ (λ (id : TransformId). key_named c.args.names.now id.0) (YieldsList-from_slice c.args.ids.now cc) c.filter_map.ensures.closure
    (λ x r q k. search (rules, tests))) in
    c.from_vec.ensures ∙ (rw c.in_ok-keys.was at collected)
