use Rattle.flat_page.proofs.lemmas.Telling.{then_said, after_said}
use Rattle.flat_pointer.specs.Steps.{lines_with, after}
use Rattle.flat_pointer.proofs.Telling.{pointer_at}
use Rattle.flat_pointer.proofs.text.push_touches.Goals as goal

pub push_touch-requires : goal.push_touch-requires
push_touch-requires c = pointer_at c.args.touches.now c.loop-one.one-index c.one-item.result c.loop-one-test.true c.one-item.is c.requires

pub loop-one-preserved : goal.loop-one-preserved
loop-one-preserved c = record {
  text = then_said (lines_with c.args.names.now) after c.args.pointers.now c.loop-one.pointers c.args.touches.now c.loop-one.one-index c.one-item.result
      c.one-item.result c.loop-one-test.true c.one-item.is c.loop-one.invariant.after c.loop-one.invariant.text
      c.in_ok-push_touch.ensures.text;
  after = after_said after c.args.pointers.now c.loop-one.pointers c.push_touch.new.pointers c.args.touches.now c.loop-one.one-index c.one-item.result
      c.one-item.result c.loop-one-test.true c.one-item.is c.loop-one.invariant.after
      c.in_ok-push_touch.ensures.after;
}
