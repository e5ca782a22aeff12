use Rattle.std.proofs.Common.{ap, refl}
use Rattle.flat_collect.specs.Judge.{graph_tree}
use Rattle.flat_snap.specs.Building.{Building}
use Rattle.flat_draft.proofs.Laying.{one-root, tree-room}
use Rattle.flat_draft.proofs.lay.flatten.Goals as goal

pub lay_root-requires : goal.lay_root-requires
lay_root-requires c = tree-room (graph_tree c.args.graph.now) c.args.nodes c.in_ok-builder.builder.room c.requires.tree.small c.requires.counted
    (ap (λ (b : Building). b.room) c.in_ok-builder.ensures)

pub finish-requires-clause-closed : goal.finish-requires-clause-closed
finish-requires-clause-closed c = rw (c.in_ok-lay_root.ensures, c.in_ok-builder.ensures) refl

pub finish-requires-clause-one : goal.finish-requires-clause-one
finish-requires-clause-one c = rw (c.in_ok-lay_root.ensures, c.in_ok-builder.ensures) (one-root c.args.graph.now c.args.contents.now)

pub returns : goal.returns
returns c = rw (c.finish.ensures, c.in_ok-viewports.ensures, c.in_ok-lay_root.ensures, c.in_ok-builder.ensures) refl
