use Rattle.std.proofs.Common.{◌≡◌, List, subst}
use Rattle.std.specs.Result.{IfOk}
use Rattle.flat_scene.specs.declared.frames.ViewNode.{ViewNode}
use Rattle.flat_tree.specs.Trees.{tree_of}
use Rattle.flat_tree.proofs.view_tree.Goals as goal

pub returns : goal.returns
returns c =
    subst (λ (views : List ViewNode). IfOk c.tree_of.result (λ tree. tree ≡ tree_of views c.args.with_view))
    c.in_ok-views.ensures c.tree_of.ensures
