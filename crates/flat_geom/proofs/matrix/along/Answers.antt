use Rattle.std.proofs.Common.{arith}
use Rattle.std.proofs.lemmas.Int.{to_z-of_z}
use Rattle.flat_geom.proofs.Bits.{moved_fits}
use Rattle.flat_geom.proofs.matrix.along.Goals as goal

pub returns : goal.returns
returns c = grind (arith, to_z-of_z, moved_fits c.args.scale c.args.number c.args.offset c.ranges.scale c.ranges.number c.ranges.offset)
