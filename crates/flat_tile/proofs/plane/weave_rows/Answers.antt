use Rattle.std.proofs.Common.{ℕ, List, ◌+◌, ◌-◌, ◌≡◌, ◌∙◌, ap, get_or, take, drop, arith}
use Rattle.flat_ink.specs.Colours.{covered}
use Rattle.flat_tile.proofs.lemmas.Rows.{row-step, row_start, row_size}
use Rattle.flat_tile.proofs.plane.weave_rows.Goals as goal

back : (a i : ℕ) → i ≡ a + i - a
back a i = omega arith

pub loop-py-preserved : goal.loop-py-preserved
loop-py-preserved c =
    let part : List ℕ = take (row_size c.args.tile c.args.cut c.loop-py.py) (drop (row_start c.args.tile c.args.cut c.loop-py.py) c.loop-py.plane) in
    row-step c.args.tile c.args.cut c.loop-py.py c.requires.tile.width c.requires.cut c.requires.some.columns (omega arith) c.loop-py-test.true
    (λ px py old. covered c.args.weight (get_or c.args.values.now (px - c.args.cut.x0) 0) old) c.args.plane.now c.loop-py.plane c.weave.new.line
    c.requires.size c.loop-py.auto.plane c.weave.auto.line
    (λ i small. c.weave.ensures i small ∙ ap (λ (n : ℕ). covered c.args.weight (get_or c.args.values.now n 0) (get_or part i 0)) (back c.args.cut.x0 i))
    c.loop-py.invariant
