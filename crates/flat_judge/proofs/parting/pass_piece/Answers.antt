use Rattle.std.proofs.Common.{◌+◌, ◌∙◌, arith}
use Rattle.flat_judge.proofs.Partings.{drop-past, parts-end}
use Rattle.flat_judge.proofs.parting.pass_piece.Goals as goal

pub returns-then-text-at : goal.returns-then-text-at
returns-then-text-at c = λ later.
    let text = c.args.text.now in
    let at = c.args.at + c.loop-place.place in
    c.loop-place.invariant.2 later
    ∙ parts-end text c.args.piece.now later at c.loop-place.place c.loop-place.reached (omega (arith, c.loop-place-test.true))
    (drop-past text at (omega (arith, c.if-text-at.true)))
