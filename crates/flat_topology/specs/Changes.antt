-- What is shown later of the sessions that did not change.
use Rattle.std.specs.Prelude.{ℕ, ◌≤◌, ◌≡◌, false, length}
use Rattle.flat_scene.specs.declared.frames.SessionSet.{SessionSet}
use Rattle.flat_topology.specs.Shown.{Shown, state_of}
use Rattle.flat_topology.specs.Members.{is_member}

-- each session outside a set shows what it showed
abbrev pub AreSame : SessionSet → Shown → Shown → Type 0
AreSame changed old new = (s : ℕ) → s ≤ length new → is_member changed s ≡ false → state_of old s ≡ state_of new s
