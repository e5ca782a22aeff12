use Rattle.std.proofs.Common.{rules, tests}
use Rattle.std.specs.Prelude.{is_none}
use Rattle.std.proofs.lemmas.Iterator.{YieldsList-from_slice}
use Rattle.std.proofs.lemmas.Iterator.Search.{any_from_yields_List}
use Rattle.flat_base.specs.declared.ids.TransformId.{TransformId}
use Rattle.flat_graph.specs.Names.{key_named}
use Rattle.flat_graph.proofs.names.has_unknown.Goals as goal

pub returns : goal.returns
returns c =
    any_from_yields_List (λ (id : TransformId). is_none (key_named c.args.names.now id.0)) _ _ c.any.result c.any.ensures.ran
    (YieldsList-from_slice _ c.iter.ensures.rest) (λ x b q k. search (rules, tests))
