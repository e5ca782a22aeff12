-- Which setups the head of a script can give.
use Rattle.std.specs.Prelude.{Bool, false, true, ◌&&◌, ◌==◌, nat_lt, nat_le, length, filter}
use Rattle.std.specs.List.{list_all}
use Rattle.flat_base.specs.declared.ids.Actor.{Actor}
use Rattle.flat_base.specs.declared.ids.Actor.TheVariants.{Display, Session, Probe}
use Rattle.flat_base.specs.declared.limits.TheConstants.{SIDE_MAX, SESSIONS_MAX, PROBES_MAX, PAIRS_MAX}
use Rattle.flat_base.specs.declared.limits.TheConstants.{BUFFER_COLLECTIONS_MAX, BUFFERS_PER_COLLECTION_MAX, FENCES_MAX}
use Rattle.flat_scene.specs.declared.setup.BufferDecl.{BufferDecl}
use Rattle.flat_scene.specs.declared.setup.FenceDecl.{FenceDecl}
use Rattle.flat_scene.specs.declared.setup.PairDecl.{PairDecl}
use Rattle.flat_scene.specs.declared.setup.Setup.{Setup}
use Rattle.flat_scene.specs.History.{is_display}
use Rattle.flat_scene.specs.Setups.{is_declared, is_ratio, is_within}

-- the display and the declared sessions own things; a probe owns nothing
abbrev pub may_own : Setup → Actor → Bool
may_own setup Display = true
may_own setup (Session s) = is_declared setup s
may_own setup (Probe p) = false

abbrev pub is_pair_declared : Setup → PairDecl → Bool
is_pair_declared setup pair = may_own setup pair.viewport && is_declared setup pair.view

abbrev pub is_buffer_declared : Setup → BufferDecl → Bool
is_buffer_declared setup buffers =
    is_declared setup buffers.owner && is_within BUFFERS_PER_COLLECTION_MAX buffers.count
    && is_within SIDE_MAX buffers.w && is_within SIDE_MAX buffers.h

abbrev pub is_fence_declared : Setup → FenceDecl → Bool
is_fence_declared setup fence = nat_lt 0 (length fence.owners) && list_all (may_own setup) fence.owners

-- all owners are declared
abbrev pub owners_declared : Setup → Bool
owners_declared setup =
    list_all (is_pair_declared setup) setup.pairs && list_all (is_buffer_declared setup) setup.buffers
    && list_all (is_fence_declared setup) setup.fences

-- the display's ratio and size, and the counts are within their limits
abbrev pub is_within_limits : Setup → Bool
is_within_limits setup =
    is_ratio setup.ratio && is_within SIDE_MAX setup.width && is_within SIDE_MAX setup.height
    && is_within SESSIONS_MAX setup.sessions && nat_le setup.probes PROBES_MAX
    && nat_le (length setup.pairs) PAIRS_MAX && nat_le (length setup.buffers) BUFFER_COLLECTIONS_MAX
    && nat_le (length setup.fences) FENCES_MAX

-- exactly one viewport end is the display's
abbrev pub has_one_display_pair : Setup → Bool
has_one_display_pair setup = length (filter (λ pair. is_display pair.viewport) setup.pairs) == 1

-- whether a head can give this setup
abbrev pub is_setup : Setup → Bool
is_setup setup = is_within_limits setup && owners_declared setup && has_one_display_pair setup
