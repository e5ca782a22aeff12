-- How far a text goes on as a piece does.
use Rattle.std.specs.Prelude.{◌≡◌, ◌≤◌, ℕ, ◌+◌, List, ◌++◌, length, drop}
use Rattle.std.specs.Prelude.{Some}
use Rattle.flat_judge.specs.declared.parting.MatchedText.{MatchedText}
use Rattle.flat_judge.specs.declared.parting.MatchedText.TheVariants.{To, Parts}
use Rattle.flat_judge.specs.Parting.{parts_from}

-- A text goes on as a piece does, from a place on and in this line, to the line of a number; or it parts.
abbrev pub PassesPiece : List ℕ → ℕ → List ℕ → ℕ → MatchedText → Type 0
PassesPiece text at piece line (To next) =
    (at + length piece ≤ length text) × (next ≤ line + length piece)
    × ((later : List ℕ) → parts_from line (drop at text) (piece ++ later)
    ≡ parts_from next (drop (at + length piece) text) later)
PassesPiece text at piece line (Parts parted) =
    (later : List ℕ) → parts_from line (drop at text) (piece ++ later) ≡ Some parted
