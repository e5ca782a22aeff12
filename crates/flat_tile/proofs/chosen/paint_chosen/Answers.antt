use Rattle.std.proofs.Common.{List, sym, subst, arith}
use Rattle.flat_scene.specs.declared.frames.DrawItem.{DrawItem}
use Rattle.flat_tile.specs.Chosen.{chosen}
use Rattle.flat_ink.specs.Channels.{channel_step}
use Rattle.flat_tile.proofs.ByNumber.{chosen-at, chosen-length}
use Rattle.flat_tile.proofs.lemmas.Items.{item-step, items-all, IsDrawnIn}
use Rattle.flat_tile.proofs.chosen.paint_chosen.Goals as goal

pub loop-n-preserved : goal.loop-n-preserved
loop-n-preserved c =
    let seen : List DrawItem = chosen c.args.items.now c.args.places.now in
    item-step seen c.loop-n.n _ c.args.tile c.args.window c.args.bytes.now c.loop-n.bytes c.paint_prepared.new.bytes
    (omega (arith, c.loop-n-test.true, chosen-length c.args.items.now c.args.places.now c.requires.places)) (omega arith) c.loop-n.invariant
    (subst (λ (it : DrawItem). IsDrawnIn (λ n px py was. channel_step n it px py was) c.args.tile c.args.window c.loop-n.bytes c.paint_prepared.new.bytes)
    (sym (chosen-at c.args.items.now c.args.places.now c.loop-n.n _ c.requires.places c.loop-n-test.true)) c.paint_prepared.ensures)

pub returns : goal.returns
returns c =
    items-all (chosen c.args.items.now c.args.places.now) c.loop-n.n c.args.tile c.args.window c.args.bytes.now c.loop-n.bytes
    (omega (arith, c.loop-n-test.false, chosen-length c.args.items.now c.args.places.now c.requires.places)) c.loop-n.invariant
