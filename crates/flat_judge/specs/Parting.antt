-- Where two texts part.
use Rattle.std.specs.Prelude.{ℕ, ◌+◌, ◌-◌, ◌==◌, cond, List, [], ◌∷◌, slice_get, Option}
use Rattle.std.specs.Prelude.{Some, None}
use Rattle.flat_text.specs.Pieces.{lines_of}

-- the line, counted on from this one, in which a text parts from another; none where the two are one
abbrev pub parts_from : ℕ → List ℕ → List ℕ → Option ℕ
parts_from line [] [] = None
parts_from line (a ∷ text) (b ∷ other) = cond (a == b) (parts_from (line + cond (a == 10) 1 0) text other) (Some line)
parts_from line _ _ = Some line

-- the line of a number of a text, counted from 1; none where the text has no such line
abbrev pub line_of : ℕ → List ℕ → Option (List ℕ)
line_of number text = slice_get (lines_of text) (number - 1)
