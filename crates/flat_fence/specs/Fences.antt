-- a set of fences, as a flag for each
use Rattle.std.specs.Prelude.{Bool, false, List, unwrap_or, slice_get}
use Rattle.flat_base.specs.declared.ids.FenceNo.{FenceNo}

-- whether a fence is in the set; none beyond the flags is
abbrev pub has : List Bool → FenceNo → Bool
has flags f = unwrap_or (slice_get flags f.0) false
