-- Which setups a head can give, and for which one thing it can't give others.
use Rattle.std.proofs.Common.{◌≡◌, true, false, [], ◌∷◌, refl}
use Rattle.flat_base.specs.declared.ids.Actor.TheVariants.{Display, Session, Probe}
use Rattle.flat_scene.specs.declared.setup.Setup.{Setup}
use Rattle.flat_scene.specs.Heads.{is_setup}
use Rattle.flat_examples.specs.Words.{s, display_over, over, fence_of, setup_of}

-- two sessions with a pair each, a fence and a buffer collection
abbrev good : Setup
good = record (setup_of 2 (display_over 1 ∷ over 1 2 ∷ []) (fence_of 1 ∷ [])) { buffers = (record { owner = s 1; count = 64; w = 8; h = 8 }) ∷ [] }

good_setup : is_setup good ≡ true
good_setup = refl

-- the display has one pair, no more and no less
no_display_pair : is_setup (record good { pairs = over 1 2 ∷ [] }) ≡ false
no_display_pair = refl

two_display_pairs : is_setup (record good { pairs = display_over 1 ∷ display_over 2 ∷ [] }) ≡ false
two_display_pairs = refl

-- owners are declared: sessions count from 1, and a probe owns nothing
view_of_session_0 : is_setup (record good { pairs = display_over 0 ∷ [] }) ≡ false
view_of_session_0 = refl

viewport_of_session_3 : is_setup (record good { pairs = display_over 1 ∷ over 3 2 ∷ [] }) ≡ false
viewport_of_session_3 = refl

viewport_of_a_probe : is_setup (record good { probes = 1; pairs = display_over 1 ∷ (record { viewport = Probe 1; view = s 2 }) ∷ [] }) ≡ false
viewport_of_a_probe = refl

fence_of_session_3 : is_setup (record good { fences = fence_of 3 ∷ [] }) ≡ false
fence_of_session_3 = refl

-- a fence has an owner, which may be the display
fence_of_nobody : is_setup (record good { fences = (record { owners = [] }) ∷ [] }) ≡ false
fence_of_nobody = refl

fence_of_the_display : is_setup (record good { fences = (record { owners = Display ∷ Session (s 2) ∷ [] }) ∷ [] }) ≡ true
fence_of_the_display = refl

-- a collection has 1 to 64 buffers
no_buffer : is_setup (record good { buffers = (record { owner = s 1; count = 0; w = 8; h = 8 }) ∷ [] }) ≡ false
no_buffer = refl

buffers_65 : is_setup (record good { buffers = (record { owner = s 1; count = 65; w = 8; h = 8 }) ∷ [] }) ≡ false
buffers_65 = refl

-- sizes, ratios and counts are within their limits
no_width : is_setup (record good { width = 0 }) ≡ false
no_width = refl

height_65537 : is_setup (record good { height = 65537 }) ≡ false
height_65537 = refl

least_ratio : is_setup (record good { ratio = 16384 }) ≡ true
least_ratio = refl

ratio_too_small : is_setup (record good { ratio = 16383 }) ≡ false
ratio_too_small = refl

ratio_too_great : is_setup (record good { ratio = 1048577 }) ≡ false
ratio_too_great = refl

sessions_17 : is_setup (record good { sessions = 17 }) ≡ false
sessions_17 = refl

probes_9 : is_setup (record good { probes = 9 }) ≡ false
probes_9 = refl
