-- Which fault each call of a builder refuses. Where several are there, the first in the order below decides.
use Rattle.std.specs.Prelude.{ℕ, ◌+◌, Bool, not, ◌&&◌, cond, nat_lt, nat_le, List, length, sum, Option}
use Rattle.std.specs.Prelude.{Some, None}
use Rattle.std.specs.List.{list_all}
use Rattle.flat_base.specs.declared.ids.Actor.{Actor}
use Rattle.flat_base.specs.declared.ids.SessionNo.{SessionNo}
use Rattle.flat_base.specs.declared.limits.TheConstants.{SIDE_MAX, SESSIONS_MAX, PAIRS_MAX, BUFFER_COLLECTIONS_MAX}
use Rattle.flat_base.specs.declared.limits.TheConstants.{BUFFERS_PER_COLLECTION_MAX, FENCES_MAX}
use Rattle.flat_scene.specs.declared.setup.BufferDecl.{BufferDecl}
use Rattle.flat_scene.specs.History.{is_display}
use Rattle.flat_scene.specs.Setups.{is_declared, is_ratio, is_within}
use Rattle.flat_scene.specs.Heads.{may_own}
use Rattle.flat_setup.specs.declared.fault.SetupFault.{SetupFault}
use Rattle.flat_setup.specs.declared.fault.SetupFault.TheVariants.{BadSize, BadRatio, BadCount}
use Rattle.flat_setup.specs.declared.fault.SetupFault.TheVariants.{TooManySessions, TooManyPairs, TooManyBuffers}
use Rattle.flat_setup.specs.declared.fault.SetupFault.TheVariants.{TooManyFences, TooManyEntries, UnknownOwner}
use Rattle.flat_setup.specs.declared.fault.SetupFault.TheVariants.{NoOwner, SecondDisplayPair, NoSession, NoDisplayPair}
use Rattle.flat_setup.specs.declared.fault.TheConstants.{SESSION_OWES, ENTRIES_MAX}
use Rattle.flat_setup.specs.Builders.{Plan, shares_of, display_pairs}

-- the first fault whose test fails
abbrev pub unless : Bool → SetupFault → Option SetupFault → Option SetupFault
unless passes fault later = cond passes later (Some fault)

abbrev pub is_size : ℕ → ℕ → Bool
is_size w h = is_within SIDE_MAX w && is_within SIDE_MAX h

-- whether all actors together may make so many entries
abbrev pub fits : ℕ → Bool
fits total = nat_le total ENTRIES_MAX

abbrev pub session_fault : Plan → ℕ → Option SetupFault
session_fault plan entries =
    unless (nat_lt plan.setup.sessions SESSIONS_MAX) TooManySessions
    (unless (fits (sum (shares_of plan) + (entries + SESSION_OWES))) TooManyEntries None)

abbrev pub pair_fault : Plan → Actor → SessionNo → Option SetupFault
pair_fault plan viewport view =
    unless (nat_lt (length plan.setup.pairs) PAIRS_MAX) TooManyPairs
    (unless (may_own plan.setup viewport && is_declared plan.setup view) UnknownOwner
    (unless (not (is_display viewport && nat_lt 0 (display_pairs plan.setup))) SecondDisplayPair None))

abbrev pub buffers_fault : Plan → BufferDecl → Option SetupFault
buffers_fault plan buffers =
    unless (nat_lt (length plan.setup.buffers) BUFFER_COLLECTIONS_MAX) TooManyBuffers
    (unless (is_declared plan.setup buffers.owner) UnknownOwner
    (unless (is_within BUFFERS_PER_COLLECTION_MAX buffers.count) BadCount
    (unless (is_size buffers.w buffers.h) BadSize None)))

abbrev pub fence_fault : Plan → List Actor → Option SetupFault
fence_fault plan owners =
    unless (nat_lt (length plan.setup.fences) FENCES_MAX) TooManyFences
    (unless (nat_lt 0 (length owners)) NoOwner
    (unless (list_all (may_own plan.setup) owners) UnknownOwner None))

-- what is wrong with the whole, when no more is said
abbrev pub fault_of : Plan → Option SetupFault
fault_of plan =
    unless (is_size plan.setup.width plan.setup.height) BadSize
    (unless (is_ratio plan.setup.ratio) BadRatio
    (unless (nat_lt 0 plan.setup.sessions) NoSession
    (unless (nat_lt 0 (display_pairs plan.setup)) NoDisplayPair
    (unless (fits (sum (shares_of plan))) TooManyEntries None))))
