use Rattle.std.proofs.Common.{ap, ◌∙◌, sym}
use Rattle.flat_tree.proofs.Following.{tree-same}
use Rattle.flat_tree.specs.Trees.{tree_of}
use Rattle.flat_tree.proofs.trees_follow.Goals as goal

pub returns-clause-views : goal.returns-clause-views
returns-clause-views c = tree-same c.views_follow_links.ensures.sessions

pub returns-clause-joined : goal.returns-clause-joined
returns-clause-joined c = λ setup shown has_view with_view few is.
    ap (λ views. tree_of views with_view) (sym (c.views_follow_links.ensures.connected setup shown))
    ∙ tree-same c.views_follow_links.ensures.sessions setup shown has_view with_view few is
