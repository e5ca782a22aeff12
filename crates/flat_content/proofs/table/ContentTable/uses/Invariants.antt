use Rattle.std.proofs.Common.{◌≡◌, take}
use Rattle.std.specs.List.{filter_map}
use Rattle.flat_content.specs.Table.{use_at}
use Rattle.flat_content.proofs.table.ContentTable.uses.Given as goal

abbrev pub invariant-loop-serial : goal.invariant-loop-serial
invariant-loop-serial l = record {
  items : l.serial-items ≡ l.self.viewports;
  listed : l.uses ≡ filter_map (use_at l.self) (take l.serial-index l.serial-items);
}
