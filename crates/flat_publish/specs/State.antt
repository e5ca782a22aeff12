-- What contracts see of a probe, and of what is published.
use Rattle.std.specs.Prelude.{ℕ, ◌≡◌, ◌⊎◌, List, [], ◌∷◌, ◌++◌, fold}
use Rattle.logbook.specs.Pages.{Book}
use Rattle.flat_publish.specs.declared.frame.Frame.{Frame}

-- the Published that it is of, and the frames that were seen
pub record Seen : Type 0 where
  pub home : Book
  pub frames : List Frame

-- which one it is, the frames that were published, frames refused since then that the next publish may add before its
-- own, and the greatest number given
pub record Publishing : Type 0 where
  pub home : Book
  pub frames : List Frame
  pub refused : List Frame
  pub given : ℕ

-- a probe that has seen nothing
abbrev pub newcomer : Book → Seen
newcomer home = record { home = home; frames = [] }

-- A frame was refused: it is forgotten, or stays for the next publish.
abbrev pub Refuses : Publishing → Frame → Publishing → Type 0
Refuses old frame new = (new.frames ≡ old.frames)
    × ((new.refused ≡ old.refused) ⊎ (new.refused ≡ old.refused ++ frame ∷ []))

-- A frame was published, behind those that were refused.
abbrev pub Publishes : Publishing → Frame → Publishing → Type 0
Publishes old frame new = (new.frames ≡ old.frames ++ old.refused ++ frame ∷ []) × (new.refused ≡ [])

-- what the copies show once these are applied: the last one
abbrev pub upcoming : Seen → List Seen → Seen
upcoming shown pending = fold (λ _ l. l) shown pending
