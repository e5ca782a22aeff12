use Rattle.flat_ink.proofs.lemmas.Lines.{IsChangedTo}
use Rattle.flat_ink.proofs.channel_ink.wash_all.Given as goal

abbrev pub invariant-loop-i : goal.invariant-loop-i
invariant-loop-i l = IsChangedTo (λ k old. l.s) l.initial.line l.line l.i
