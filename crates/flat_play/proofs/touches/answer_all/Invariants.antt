use Rattle.std.proofs.Common.{◌≡◌, ◌++◌, take, map}
use Rattle.flat_scene.specs.Setups.{at_ratio}
use Rattle.flat_play.specs.Last.{StaysLast}
use Rattle.flat_play.specs.Touching.{touch_in}
use Rattle.flat_play.proofs.touches.answer_all.Given as goal

abbrev pub invariant-loop-line : goal.invariant-loop-line
invariant-loop-line l = record {
  answers : l.found.items ≡ l.fn.found.items ++ map (touch_in (at_ratio l.fn.last.ratio l.setup) l.fn.last.reuse) (take l.line-index l.lines);
  stays : StaysLast l.setup l.fn.last l.last;
}
