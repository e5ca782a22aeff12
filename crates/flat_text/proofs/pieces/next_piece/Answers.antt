use Rattle.std.proofs.Common.{arith}
use Rattle.flat_text.proofs.PieceLemmas.{split_whole, split_at}
use Rattle.flat_text.proofs.pieces.next_piece.Goals as goal

pub returns-then-end-text : goal.returns-then-end-text
returns-then-end-text c = split_at _ c.args.text.now c.place_of-end.result c.place_of-end.ensures.place (omega arith)

pub returns-else-end-text : goal.returns-else-end-text
returns-else-end-text c = split_whole _ c.args.text.now (omega arith)
