-- What a reader of pieces has left.
use Rattle.std.specs.Prelude.{ℕ, Bool, List, [], Option, Some, None}
use Rattle.std.specs.Borrow.{Bor}
use Rattle.std.specs.List.{slice_split}

-- the pieces of what is left of a text, where anything is
abbrev pub pieces_left : (ℕ → Bool) → Option (Bor (List ℕ)) → List (List ℕ)
pieces_left p None = []
pieces_left p (Some text) = slice_split p text.now
