-- The pairs of a setup by their places.
use Rattle.std.specs.Prelude.{ℕ}
use Rattle.flat_base.specs.declared.ids.PairNo.{PairNo}

-- the pair at a place
abbrev pub pair : ℕ → PairNo
pair i = record { 0 = i }
