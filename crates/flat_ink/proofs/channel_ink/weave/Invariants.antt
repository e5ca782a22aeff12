use Rattle.std.proofs.Common.{get_or}
use Rattle.flat_ink.specs.Colours.{covered}
use Rattle.flat_ink.proofs.lemmas.Lines.{IsChangedTo}
use Rattle.flat_ink.proofs.channel_ink.weave.Given as goal

abbrev pub invariant-loop-i : goal.invariant-loop-i
invariant-loop-i l = IsChangedTo (λ k old. covered l.weight (get_or l.values k 0) old) l.initial.line l.line l.i
