use Rattle.std.proofs.Common.{◌≡◌, [], sym, ◌∙◌, arith}
use Rattle.flat_text.specs.Pieces.{lines_of}
use Rattle.flat_judge.proofs.Looking.{drop-end, drop-more}
use Rattle.flat_judge.proofs.probe_guide.behind_lines.Goals as goal

pub returns-in_default : goal.returns-in_default
returns-in_default c =
    let none : lines_of c.loop.rest.now ≡ [] = c.in_default.ensures.lines in
    let below = c.loop-test.true in
    none ∙ sym (drop-end c.loop.counter c.args.count (lines_of c.args.text.now) (omega (arith, below)) (c.loop.invariant ∙ none))

pub loop-preserved : goal.loop-preserved
loop-preserved c = drop-more c.loop.counter (lines_of c.args.text.now) c.in-Some.field-0-0.now (lines_of c.in-Some.later.now)
    (c.loop.invariant ∙ c.in-Some.ensures.lines)
