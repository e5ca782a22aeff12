use Rattle.std.proofs.Common.{◌≤◌, ◌∙◌, length, drop, arith}
use Rattle.std.proofs.lemmas.List.{length-drop}
use Rattle.flat_io.proofs.Loops.{written-more, rest-whole}
use Rattle.flat_io.proofs.whole.write_all.Goals as goal

pub loop-written-preserved : goal.loop-written-preserved
loop-written-preserved g c =
    let whole = rest-whole c.args.text.now c.loop-written.written in
    let took = rw whole at c.in-Ok.ensures.taken in
    let within : c.in-Ok.count ≤ length (drop c.loop-written.written c.args.text.now) = rw whole at c.in-Ok.ensures.within in
    record {
      short = omega (arith, length-drop c.loop-written.written c.args.text.now);
      written = written-more _ _ _ c.args.text.now c.loop-written.written c.in-Ok.count c.loop-written.invariant.written took;
      faults = c.in-Ok.ensures.steady ∙ c.loop-written.invariant.faults;
      stalls = c.in-Ok.ensures.flows (omega arith) ∙ c.loop-written.invariant.stalls;
      writes = omega (arith, c.in-Ok.ensures.writes);
    }
