use Rattle.std.proofs.Common.{◌≡◌, ◌≤◌, ◌+◌, ◌++◌, ℕ, List, length, drop}
use Rattle.flat_judge.specs.Parting.{parts_from}
use Rattle.flat_judge.proofs.parting.pass_piece.Given as goal

abbrev pub invariant-loop-place : goal.invariant-loop-place
invariant-loop-place l =
    (l.at + l.place ≤ length l.text) × (l.reached ≤ l.line + l.place)
    × ((later : List ℕ) → parts_from l.line (drop l.at l.text) (l.piece ++ later)
    ≡ parts_from l.reached (drop (l.at + l.place) l.text) (drop l.place l.piece ++ later))
