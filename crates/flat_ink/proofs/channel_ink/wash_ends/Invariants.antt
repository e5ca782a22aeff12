use Rattle.std.proofs.Common.{◌+◌}
use Rattle.flat_ink.proofs.lemmas.Lines.{IsLaid}
use Rattle.flat_ink.proofs.channel_ink.wash_ends.Given as goal

abbrev pub invariant-loop-i : goal.invariant-loop-i
invariant-loop-i l = IsLaid (λ k. l.s) l.line 0 l.i

abbrev pub invariant-loop-i-2 : goal.invariant-loop-i-2
invariant-loop-i-2 l = record { front : IsLaid (λ k. l.s) l.line 0 l.count; back : IsLaid (λ k. l.s) l.line l.rest (l.rest + l.i) }
