use Rattle.flat_texts.specs.Damages.{damaged_lines}
use Rattle.flat_texts.proofs.Printing.{more_groups_at}
use Rattle.flat_texts.proofs.damage.push_all.Goals as goal

pub loop-one-preserved : goal.loop-one-preserved
loop-one-preserved c = more_groups_at damaged_lines c.args.damaged.now c.loop-one.one-index c.one-item.result c.one-item.is c.loop-one-test.true
    c.loop-one.invariant c.in_ok-push_damaged.ensures
