use Rattle.flat_ink.specs.Colours.{covered}
use Rattle.flat_ink.proofs.lemmas.Lines.{IsChangedTo}
use Rattle.flat_ink.proofs.channel_ink.veil.Given as goal

abbrev pub invariant-loop-i : goal.invariant-loop-i
invariant-loop-i l = IsChangedTo (λ k old. covered l.weight l.s old) l.initial.line l.line l.i
