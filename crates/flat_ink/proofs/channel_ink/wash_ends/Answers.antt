use Rattle.std.proofs.Common.{refl, arith}
use Rattle.std.proofs.lemmas.Bool.{cases_lt}
use Rattle.flat_ink.proofs.lemmas.Lines.{laid-more, laid-still}
use Rattle.flat_ink.proofs.lemmas.Ranges.{either}
use Rattle.flat_ink.proofs.channel_ink.wash_ends.Goals as goal

pub loop-i-preserved : goal.loop-i-preserved
loop-i-preserved c = laid-more (λ k. c.args.s) c.loop-i.line 0 c.loop-i.i _ (omega arith) refl c.loop-i.invariant

pub loop-i-2-preserved : goal.loop-i-2-preserved
loop-i-2-preserved c = record {
  front = laid-still (λ k. c.args.s) c.loop-i-2.line _ _ 0 c.args.count (omega arith) refl c.loop-i-2.invariant.front;
  back = λ k low high. laid-more (λ k. c.args.s) c.loop-i-2.line _ _ _ (omega arith) refl c.loop-i-2.invariant.back k low (omega arith);
}

pub returns : goal.returns
returns c = λ i small.
    either _ _ (cases_lt i c.args.count)
    (λ front. c.loop-i-2.invariant.front i (omega arith) front)
    (λ back. c.loop-i-2.invariant.back i (omega arith) (omega arith))
