use Rattle.std.proofs.Common.{refl}
use Rattle.flat_page.proofs.lemmas.Telling.{then_said, after_said}
use Rattle.flat_focus.specs.Steps.{lines_with, after}
use Rattle.flat_focus.proofs.text.push_asks.Goals as goal

pub loop-line-preserved : goal.loop-line-preserved
loop-line-preserved c = record {
  text = then_said (lines_with c.args.names.now) after c.args.focus.now c.loop-line.focus c.args.lines.now c.loop-line.line-index _ _ c.loop-line-test.true refl
      c.loop-line.invariant.after c.loop-line.invariant.text
      c.in_ok-push_ask.ensures.text;
  after = after_said after c.args.focus.now c.loop-line.focus c.push_ask.new.focus c.args.lines.now c.loop-line.line-index _ _ c.loop-line-test.true refl
      c.loop-line.invariant.after c.in_ok-push_ask.ensures.after;
}
