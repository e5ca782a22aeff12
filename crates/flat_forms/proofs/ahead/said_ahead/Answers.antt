use Rattle.flat_text.specs.Pieces.{is_space, words_of}
use Rattle.flat_text.specs.Left.{pieces_left}
use Rattle.flat_forms.proofs.AheadLemmas.{said}
use Rattle.flat_forms.proofs.ahead.said_ahead.Goals as goal

pub returns : goal.returns
returns c =
    said c.args.script.now.script (words_of c.args.words.now) c.next_piece.result.0.now (pieces_left is_space c.next_piece.result.1) c.in_ok-actor.actor
    c.in_ok-body.body
    c.next_piece.ensures c.in_ok-actor.ensures.named c.in_ok-actor.ensures.counted c.in_ok-body.ensures
