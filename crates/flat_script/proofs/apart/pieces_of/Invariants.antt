use Rattle.std.proofs.Common.{◌≡◌, List, ◌++◌, length}
use Rattle.flat_text.specs.Pieces.{lines_of}
use Rattle.flat_script.specs.Ahead.{Piece, lines_in}
use Rattle.flat_script.proofs.apart.pieces_of.Given as goal

abbrev pub invariant-loop-rest : goal.invariant-loop-rest
invariant-loop-rest l = (more : List Piece) → lines_in more ≡ lines_of l.rest → lines_in (l.pieces.items ++ more) ≡ lines_of l.fn.text

abbrev pub decreases-loop-rest : goal.decreases-loop-rest
decreases-loop-rest l = length l.rest
