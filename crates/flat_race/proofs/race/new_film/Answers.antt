use Rattle.std.proofs.Common.{arith, ap, sym}
use Rattle.flat_display.specs.Lost.{Driven}
use Rattle.flat_race.proofs.race.new_film.Goals as goal

pub returns-clause-new : goal.returns-clause-new
returns-clause-new c = record {
  stands = c.in_ok-store.ensures.stands;
  none = ap (λ (s : Driven). s.lost) c.in_ok-set.ensures;
  number = sym (ap (λ (s : Driven). s.displays) c.in_ok-set.ensures);
  few = rw c.in_ok-set.ensures (omega (arith, c.ranges.displays));
}
