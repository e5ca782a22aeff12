use Rattle.std.proofs.Common.{ℕ, ◌+◌, ◌-◌, ◌≡◌, ◌∙◌, ap, get_or, arith}
use Rattle.flat_tile.proofs.lemmas.Rows.{row-step}
use Rattle.flat_tile.proofs.plane.copy_rows_by.Goals as goal

back : (a i : ℕ) → i ≡ a + i - a
back a i = omega arith

pub loop-py-preserved : goal.loop-py-preserved
loop-py-preserved c =
    row-step c.args.tile c.args.cut c.loop-py.py c.requires.tile.width c.requires.cut c.requires.some.columns (omega arith) c.loop-py-test.true
    (λ px py old. get_or c.args.values.now (px - c.args.cut.x0) 0) c.args.plane.now c.loop-py.plane c.copy_ends.new.line
    c.requires.size c.loop-py.auto.plane c.copy_ends.auto.line
    (λ i small. c.copy_ends.ensures i small ∙ ap (λ (n : ℕ). get_or c.args.values.now n 0) (back c.args.cut.x0 i))
    c.loop-py.invariant
