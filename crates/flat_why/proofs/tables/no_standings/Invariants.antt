use Rattle.std.proofs.Common.{◌≡◌, length}
use Rattle.flat_why.proofs.tables.no_standings.Given as goal

abbrev pub invariant-loop : goal.invariant-loop
invariant-loop l = length l.standings.items ≡ l.counter
