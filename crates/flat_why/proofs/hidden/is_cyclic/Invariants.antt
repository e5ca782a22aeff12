use Rattle.std.proofs.Common.{◌≡◌, ◌-◌, length}
use Rattle.std.specs.Prelude.{◌==◌}
use Rattle.std.specs.List.{list_any}
use Rattle.flat_why.specs.Hidden.{ancestors, is_cyclic}
use Rattle.flat_why.specs.Noted.{stands_in}
use Rattle.flat_why.proofs.hidden.is_cyclic.Given as goal

abbrev pub invariant-loop : goal.invariant-loop
invariant-loop l = list_any (λ above. above.0 == l.s.0) (ancestors (stands_in l.standings) (length l.standings - l.counter) l.standing)
    ≡ is_cyclic (length l.standings) (stands_in l.standings) l.s
