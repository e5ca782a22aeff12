-- The matrix that moves nothing.
use Rattle.flat_base.specs.declared.limits.TheConstants.{ONE}
use Rattle.flat_geom.specs.declared.matrix.Matrix.{Matrix}
use Rattle.flat_geom.specs.Matrices.{scaling_matrix}

-- the matrix that takes each place to itself
abbrev pub identity_matrix : Matrix
identity_matrix = scaling_matrix ONE
