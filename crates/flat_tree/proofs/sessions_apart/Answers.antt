use Rattle.std.proofs.Common.{◌∙◌, ◌+◌, sym, ap, ◌++◌, List, arith}
use Rattle.flat_base.specs.declared.ids.SessionNo.{SessionNo}
use Rattle.flat_tree.specs.Trees.{is_apart, if_apart}
use Rattle.flat_tree.proofs.Following.{apart-more}
use Rattle.flat_tree.proofs.sessions_apart.Goals as goal

pub loop-before-preserved : goal.loop-before-preserved
loop-before-preserved c =
    let before = c.loop-before.before in
    let views = c.args.views.now in
    record {
      room = omega arith;
      items = c.add_apart.ensures.items
          ∙ ap (λ (items : List SessionNo). items ++ if_apart (is_apart views c.args.with_view.now (before + 1)) (before + 1)) c.loop-before.invariant.items
          ∙ sym (apart-more before views c.args.with_view.now);
    }
