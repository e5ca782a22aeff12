use Rattle.std.proofs.Common.{◌≡◌, replicate, None}
use Rattle.flat_why.proofs.tables.no_closings.Given as goal

abbrev pub invariant-loop : goal.invariant-loop
invariant-loop l = l.closings.items ≡ replicate l.counter None
