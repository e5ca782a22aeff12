use Rattle.std.proofs.Common.{ap, ◌==◌, ◌∙◌}
use Rattle.flat_why.proofs.Painting.{none-flat}
use Rattle.flat_why.proofs.blanks.is_rootless.Goals as goal

pub returns : goal.returns
returns c = ap (λ n. n == 0) c.nodes.ensures ∙ none-flat c.args.state.now
