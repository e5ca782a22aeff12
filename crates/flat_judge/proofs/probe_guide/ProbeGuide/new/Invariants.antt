use Rattle.std.proofs.Common.{◌≡◌, [], replicate}
use Rattle.flat_judge.proofs.probe_guide.ProbeGuide.new.Given as goal

abbrev pub invariant-loop : goal.invariant-loop
invariant-loop l = l.seen.items ≡ replicate l.counter []
