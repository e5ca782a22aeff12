-- How sessions hang below one another, down from the display.
use Rattle.std.specs.Prelude.{ℕ, zero, suc, ◌≡◌, Bool, IsTrue, Option, Some, None}
use Rattle.std.specs.List.{Contains}
use Rattle.flat_base.specs.declared.ids.SessionNo.{SessionNo}
use Rattle.flat_scene.specs.declared.setup.Setup.{Setup}
use Rattle.flat_topology.specs.Shown.{Shown, state_of, view_of, pairs_shown}
use Rattle.flat_topology.specs.Pairs.{display_pair}
use Rattle.flat_topology.specs.Owners.{OwnsView, OwnsViewport}

-- session c is below session s: s shows a viewport of the pair of whose view c's state is
pub record IsBelow (shown : Shown) (c s : ℕ) : Type 0 where
  pub pair : ℕ
  pub viewport : Contains (pairs_shown shown s) pair
  pub view : view_of (state_of shown c) ≡ Some pair

-- the view of session c is the display's
pub record IsTop (setup : Setup) (shown : Shown) (c : ℕ) : Type 0 where
  pub pair : ℕ
  pub viewport : display_pair setup ≡ Some pair
  pub view : view_of (state_of shown c) ≡ Some pair

-- session c is a child of a session, or of the display itself
abbrev pub IsChild : Setup → Shown → ℕ → Option SessionNo → Type 0
IsChild setup shown c None = IsTop setup shown c
IsChild setup shown c (Some parent) = IsBelow shown c parent.0

-- session c is connected to the display through so many other sessions, each below the one before
abbrev pub IsConnectedThrough : Setup → Shown → ℕ → ℕ → Type 0
IsConnectedThrough setup shown zero c = IsTop setup shown c
IsConnectedThrough setup shown (suc between) c = (s : ℕ) × IsBelow shown c s × IsConnectedThrough setup shown between s

-- session c is connected: its view is the display's, or it is below a connected session
abbrev pub IsConnected : Setup → Shown → ℕ → Type 0
IsConnected setup shown c = (between : ℕ) × IsConnectedThrough setup shown between c

-- session c hangs below session s, with so many others between them
abbrev pub HangsBelow : Shown → ℕ → ℕ → ℕ → Type 0
HangsBelow shown zero c s = IsBelow shown c s
HangsBelow shown (suc between) c s = (t : ℕ) × IsBelow shown c t × HangsBelow shown between t s

-- a group of sessions has, with each session, whoever owns the viewport end of a pair whose view end that session owns
abbrev pub HasParents : Setup → (ℕ → Bool) → Type 0
HasParents setup group = (s c p : ℕ) → IsTrue (group c) → OwnsView setup c p → OwnsViewport setup s p → IsTrue (group s)
