use Rattle.std.proofs.Common.{sym, ◌∙◌}
use Rattle.flat_graph.proofs.lemmas.NameLemmas.{named-place}
use Rattle.flat_graph.proofs.names.key_of.Goals as goal

pub returns : goal.returns
returns c = c.key_at.ensures ∙ sym (named-place _ _ _ c.requires c.place_of.ensures)
