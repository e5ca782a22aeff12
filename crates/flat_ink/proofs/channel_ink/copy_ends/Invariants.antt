use Rattle.std.proofs.Common.{◌+◌, get_or}
use Rattle.flat_ink.proofs.lemmas.Lines.{IsLaid}
use Rattle.flat_ink.proofs.channel_ink.copy_ends.Given as goal

abbrev pub invariant-loop-i : goal.invariant-loop-i
invariant-loop-i l = IsLaid (λ k. get_or l.values k 0) l.line 0 l.i

abbrev pub invariant-loop-i-2 : goal.invariant-loop-i-2
invariant-loop-i-2 l = record {
  front : IsLaid (λ k. get_or l.values k 0) l.line 0 l.count;
  back : IsLaid (λ k. get_or l.values k 0) l.line l.rest (l.rest + l.i);
}
