-- which ends of pairs were used
use Rattle.std.specs.Prelude.{Bool, false, List, slice_get, unwrap_or}
use Rattle.flat_base.specs.declared.ids.PairNo.{PairNo}

-- whether an end was used, by a flag for each pair
abbrev pub has_end : List Bool → PairNo → Bool
has_end flags p = unwrap_or (slice_get flags p.0) false
