use Rattle.std.proofs.Common.{arith}
use Rattle.std.proofs.lemmas.Int.{to_z-of_z}
use Rattle.flat_geom.proofs.matrix.compose.Goals as goal

pub returns-then-outer : goal.returns-then-outer
returns-then-outer c = grind (arith, to_z-of_z)

pub returns-else-outer : goal.returns-else-outer
returns-else-outer c = grind (arith, to_z-of_z)
