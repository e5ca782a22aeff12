-- The rule of the book, and what its one kind of step tells.
use Rattle.std.specs.Prelude.{ℕ, ◌≡◌, ◌==◌, true, List, [], ◌∷◌, ◌++◌, MatchBool}
use Rattle.logbook.specs.Pages.{Cell, Step, View, Book, Named}
use Rattle.flat_publish.specs.declared.frame.Frame.{Frame}
use Rattle.flat_publish.specs.Frames.{last_number, IsRising}

-- The word is the number of the last frame, and the numbers rise.
pub record IsKept (cells : List Cell) (log : List Frame) : Type 0 where
  pub words : cells ≡ (last_number log, true) ∷ (0, true) ∷ []
  pub rising : IsRising log

-- the word of a book
abbrev pub head_of : Book → Named
head_of b = record { tracked = true; key = 0; book = b }

-- the frame was added to all that had been seen, or nothing is said
abbrev pub Adds : Step Frame → View Frame ℕ → ℕ → View Frame ℕ → Type 0
Adds s v found w = MatchBool (found == s.old) ((w.0 ≡ v.0 ++ s.ask ∷ []) × IsRising w.0) (Unit {0})
