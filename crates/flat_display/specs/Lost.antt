-- the displays that were lost, the first loss first
use Rattle.std.specs.Prelude.{⊤, ℕ, ◌≤◌, ◌==◌, Bool, List, [], ◌∷◌, Option, None, Some, if◌then◌else◌}
use Rattle.std.specs.List.{list_any}
use Rattle.flat_base.specs.declared.ids.FrameNo.{FrameNo}
use Rattle.flat_scene.specs.declared.frames.LostDisplay.{LostDisplay}

-- a set of displays: how many there are, and which of them were lost
pub record Driven : Type 0 where
  pub displays : ℕ
  pub lost : List LostDisplay

-- whether the display of this number, from 1, is lost
abbrev pub is_lost : List LostDisplay → ℕ → Bool
is_lost lost number = list_any (λ l. l.display == number) lost

-- the frame at which it was lost
abbrev pub lost_at : List LostDisplay → ℕ → Option FrameNo
lost_at [] number = None
lost_at (l ∷ ls) number = if l.display == number then Some l.frame else lost_at ls number

-- Those that are lost have numbers from 1 to this one.
abbrev pub AreWithin : ℕ → List LostDisplay → Type 0
AreWithin displays [] = ⊤
AreWithin displays (l ∷ ls) = (1 ≤ l.display) × (l.display ≤ displays) × AreWithin displays ls
