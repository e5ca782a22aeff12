use Rattle.std.proofs.Common.{arith}
use Rattle.flat_geom.proofs.Bits.{bound_read_back, sum_read_back}
use Rattle.flat_geom.proofs.rect.units.Goals as goal

pub returns : goal.returns
returns c = grind (arith, bound_read_back, sum_read_back)
