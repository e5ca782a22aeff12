-- What is kept between frames.
use Rattle.std.specs.Prelude.{ℕ, suc, ◌≡◌, ◌⊎◌, false, List, Option, Some, None, length, slice_index_or}
use Rattle.flat_scene.specs.declared.frames.SessionSet.{SessionSet}
use Rattle.flat_scene.specs.declared.trees.Tree.{Tree}
use Rattle.flat_topology.specs.Shown.{Shown, nodes_of}
use Rattle.flat_join.specs.Walking.{space_of}
use Rattle.flat_reuse.specs.declared.slots.KeptSession.{KeptSession}
use Rattle.flat_reuse.specs.Parts.{laid_out}
use Rattle.flat_reuse.specs.Pieces.{pieces}

-- what is kept of a session is what its nodes give below the scope that is kept
abbrev pub IsKept : ℕ → Option Tree → KeptSession → Type 0
IsKept s state kept = kept.parts ≡ laid_out (pieces s (nodes_of state) (space_of kept.scope))

-- the same, if something is kept
abbrev pub IsSlot : ℕ → Option Tree → Option KeptSession → Type 0
IsSlot s state None = Unit {0}
IsSlot s state (Some kept) = IsKept s state kept

-- Each session has a slot, which keeps what it shows.
pub record AreSlots (shown : Shown) (slots : List (Option KeptSession)) : Type 0 where
  pub size : length slots ≡ length shown
  pub each : (before : ℕ) → IsSlot (suc before) (slice_index_or shown before None) (slice_index_or slots before None)

-- There are so many slots, and what is kept in one was kept there before, of a session outside a set.
pub record AreFitted (changed : SessionSet) (old new : List (Option KeptSession)) (sessions : ℕ) : Type 0 where
  pub size : length new ≡ sessions
  pub each : (k : ℕ) → (slice_index_or new k None ≡ None)
      ⊎ ((slice_index_or changed.has k false ≡ false) × (slice_index_or new k None ≡ slice_index_or old k None))
