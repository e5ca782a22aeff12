-- Small plans: what they build, and what is refused.
use Rattle.std.proofs.Common.{◌≡◌, ℕ, [], ◌∷◌, refl}
use Rattle.std.specs.Prelude.{Some, None}
use Rattle.flat_base.specs.declared.ids.Actor.TheVariants.{Display, Session, Probe}
use Rattle.flat_base.specs.declared.ids.SessionNo.{SessionNo}
use Rattle.flat_setup.specs.declared.fault.SetupFault.TheVariants.{BadSize, BadRatio, BadCount, TooManyEntries, UnknownOwner}
use Rattle.flat_setup.specs.declared.fault.SetupFault.TheVariants.{NoOwner, SecondDisplayPair, NoSession, NoDisplayPair}
use Rattle.flat_setup.specs.Builders.{Plan, begun, with_ratio, with_session, with_pair, shares_of}
use Rattle.flat_setup.specs.Faults.{session_fault, pair_fault, buffers_fault, fence_fault, fault_of}

abbrev s : ℕ → SessionNo
s n = record { 0 = n }

-- a display that makes 10 entries, then a session that makes 5, then the display's pair
abbrev start : Plan
start = begun 640 480 10

abbrev peopled : Plan
peopled = with_session start 5

abbrev whole : Plan
whole = with_pair peopled (record { viewport = Display; view = s 1 })

nothing_wrong : fault_of whole ≡ None
nothing_wrong = refl

-- the display owes one entry more, and a session two
shares : shares_of whole ≡ 11 ∷ 7 ∷ []
shares = refl

without_session : fault_of start ≡ Some NoSession
without_session = refl

without_pair : fault_of peopled ≡ Some NoDisplayPair
without_pair = refl

-- the size comes before the session
without_width : fault_of (begun 0 480 10) ≡ Some BadSize
without_width = refl

small_ratio : fault_of (with_ratio whole 1) ≡ Some BadRatio
small_ratio = refl

second_pair : pair_fault whole Display (s 1) ≡ Some SecondDisplayPair
second_pair = refl

pair_of_sessions : pair_fault whole (Session (s 1)) (s 1) ≡ None
pair_of_sessions = refl

view_of_session_2 : pair_fault peopled Display (s 2) ≡ Some UnknownOwner
view_of_session_2 = refl

viewport_of_a_probe : pair_fault peopled (Probe 0) (s 1) ≡ Some UnknownOwner
viewport_of_a_probe = refl

no_buffer : buffers_fault peopled (record { owner = s 1; count = 0; w = 8; h = 8 }) ≡ Some BadCount
no_buffer = refl

fence_of_nobody : fence_fault peopled [] ≡ Some NoOwner
fence_of_nobody = refl

fence_of_the_display : fence_fault start (Display ∷ []) ≡ None
fence_of_the_display = refl

-- the most that a session can make beside a display that makes nothing, and one more
most_entries : session_fault (begun 640 480 0) 4294967292 ≡ None
most_entries = refl

one_entry_too_many : session_fault (begun 640 480 0) 4294967293 ≡ Some TooManyEntries
one_entry_too_many = refl
