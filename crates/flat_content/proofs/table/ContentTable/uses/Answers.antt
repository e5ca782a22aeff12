use Rattle.std.proofs.Common.{◌≡◌, ◌++◌, ◌<◌, sym, length, arith, rules}
use Rattle.std.specs.Prelude.{option_to_list}
use Rattle.flat_content.specs.Table.{use_at}
use Rattle.flat_content.proofs.Serials.{filter-more}
use Rattle.flat_content.proofs.table.ContentTable.uses.Goals as goal

pub loop-serial-preserved : goal.loop-serial-preserved
loop-serial-preserved c =
    let within : c.loop-serial.serial-index < length c.deref-serial-items.result.now = omega arith in
    let pushed : c.push_some.new.uses ≡ c.loop-serial.uses ++ option_to_list c.use_of.result = search rules in
    record {
      items = c.loop-serial.invariant.items;
      listed = rw (pushed, c.loop-serial.invariant.listed, c.use_of.ensures)
          (sym (filter-more (use_at c.args.self.now) c.deref-serial-items.result.now c.loop-serial.serial-index 0 within));
    }
