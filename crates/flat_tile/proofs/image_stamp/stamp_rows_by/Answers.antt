use Rattle.std.proofs.Common.{ℕ, ◌+◌, ◌-◌, ◌≡◌, ◌∙◌, ap, List, get_or, arith}
use Rattle.flat_tile.specs.Preparing.{stamped}
use Rattle.flat_ink.specs.declared.area.Area.{Area}
use Rattle.flat_tile.specs.declared.image_stamp.ImageStamp.{ImageStamp}
use Rattle.flat_tile.proofs.lemmas.Rows.{row-step}
use Rattle.flat_tile.proofs.image_stamp.stamp_rows_by.Goals as goal

back : (a i : ℕ) → i ≡ a + i - a
back a i = omega arith

pub loop-py-preserved : goal.loop-py-preserved
loop-py-preserved c =
    let it : ImageStamp = c.args.it.now in
    let cut : Area = it.cut in record {
      reds =
          row-step c.args.tile cut c.loop-py.py c.requires.tile.width c.requires.cut c.requires.some.columns (omega arith) c.loop-py-test.true
          (λ px py old. stamped it 0 px py) c.args.red.now c.loop-py.red c.copy_ends.new.line
          c.requires.red c.loop-py.auto.red c.copy_ends.auto.line
          (λ i small. c.copy_ends.ensures i small ∙ ap (λ (xs : List ℕ). get_or xs i 0) c.as_slice.ensures ∙ ap (λ (n : ℕ). get_or it.reds n 0) (back cut.x0 i))
          c.loop-py.invariant.reds;
      greens =
          row-step c.args.tile cut c.loop-py.py c.requires.tile.width c.requires.cut c.requires.some.columns (omega arith) c.loop-py-test.true
          (λ px py old. stamped it 1 px py) c.args.green.now c.loop-py.green c.wash_ends.new.line
          c.requires.green c.loop-py.auto.green c.wash_ends.auto.line c.wash_ends.ensures c.loop-py.invariant.greens;
      blues =
          row-step c.args.tile cut c.loop-py.py c.requires.tile.width c.requires.cut c.requires.some.columns (omega arith) c.loop-py-test.true
          (λ px py old. stamped it 2 px py) c.args.blue.now c.loop-py.blue c.wash_ends-in-loop-py.new.line
          c.requires.blue c.loop-py.auto.blue c.wash_ends-in-loop-py.auto.line c.wash_ends-in-loop-py.ensures c.loop-py.invariant.blues;
    }
