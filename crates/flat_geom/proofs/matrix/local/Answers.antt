use Rattle.std.proofs.Common.{arith}
use Rattle.std.proofs.lemmas.Int.{to_z-of_z}
use Rattle.flat_geom.proofs.Bits.{widened, negative_read_back}
use Rattle.flat_geom.proofs.matrix.local.Goals as goal

pub returns-in-Ccw0 : goal.returns-in-Ccw0
returns-in-Ccw0 c = grind (arith, to_z-of_z, widened, negative_read_back)

pub returns-in-Ccw90 : goal.returns-in-Ccw90
returns-in-Ccw90 c = grind (arith, to_z-of_z, widened, negative_read_back)

pub returns-in-Ccw180 : goal.returns-in-Ccw180
returns-in-Ccw180 c = grind (arith, to_z-of_z, widened, negative_read_back)

pub returns-in-Ccw270 : goal.returns-in-Ccw270
returns-in-Ccw270 c = grind (arith, to_z-of_z, widened, negative_read_back)
