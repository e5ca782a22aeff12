-- How far from the display each connected session is.
use Rattle.std.specs.Prelude.{ℕ, suc, ◌≤◌, ◌≡◌, ◌↔◌, Bool, false, ◌==◌, if◌then◌else◌, List, length, Option, Some, None}
use Rattle.std.specs.Prelude.{slice_index_or}
use Rattle.flat_scene.specs.declared.setup.Setup.{Setup}
use Rattle.flat_scene.specs.declared.trees.Content.{Content}
use Rattle.flat_scene.specs.declared.trees.Content.TheVariants as content
use Rattle.flat_topology.specs.Shown.{Shown, state_of, view_of}
use Rattle.flat_topology.specs.Links.{IsBelow, IsConnectedThrough}

-- whether a content is a viewport of a pair
abbrev pub leads_to : ℕ → Option Content → Bool
leads_to p (Some (content.Viewport serial pair props)) = pair.0 == p
leads_to p _ = false

-- whether a view is that of one of some pairs
abbrev pub is_view_among : (ℕ → Bool) → Option ℕ → Bool
is_view_among pairs None = false
is_view_among pairs (Some p) = pairs p

-- through how many others each session is connected, session 1 first; None where it isn't
abbrev pub AreDistances : Setup → Shown → List (Option ℕ) → Type 0
AreDistances setup shown distances = (s d : ℕ)
    → (slice_index_or distances s None ≡ Some d) ↔ IsConnectedThrough setup shown d (suc s)

-- The sessions whose views are of some pairs got that distance, and the others kept theirs.
pub record NotesViews (shown : Shown) (pairs : ℕ → Bool) (distance : ℕ) (old new : List (Option ℕ)) : Type 0 where
  pub count : length new ≡ length old
  pub each : (s : ℕ) → slice_index_or new s None
      ≡ (if is_view_among pairs (view_of (state_of shown (suc s))) then Some distance else slice_index_or old s None)

-- What is noted is right. All sessions up to a distance are noted, and of the next ones those below the first so many
-- sessions.
pub record IsFinding (setup : Setup) (shown : Shown) (far done : ℕ) (distances : List (Option ℕ)) : Type 0 where
  pub count : length distances ≡ length shown
  pub right : (s d : ℕ) → slice_index_or distances s None ≡ Some d → IsConnectedThrough setup shown d (suc s)
  pub near : (s d : ℕ) → d ≤ far → IsConnectedThrough setup shown d (suc s) → slice_index_or distances s None ≡ Some d
  pub below : (c s : ℕ) → s ≤ done → IsBelow shown (suc c) s → IsConnectedThrough setup shown far s
      → slice_index_or distances c None ≡ Some (suc far)
