use Rattle.flat_play.proofs.Composing.{composed}
use Rattle.flat_play.proofs.frame.LastFrame.compose_next.Goals as goal

pub returns-clause-frame : goal.returns-clause-frame
returns-clause-frame c = λ begun showing scaled viewed.
    composed c.args.setup.now begun c.args.shown.now c.args.with_view c.args.ratio scaled showing viewed
    _ _ _ c.in_ok-tree.tree c.requires.setup c.trees_follow.ensures.views c.in_ok-items.ensures.items c.in_ok-items.ensures.views c.in_ok-tree.ensures
