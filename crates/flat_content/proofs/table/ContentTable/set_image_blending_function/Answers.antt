use Rattle.std.proofs.Common.{◌≡◌, Some, refl, rules}
use Rattle.flat_scene.specs.Draft.{of_serial}
use Rattle.flat_graph.specs.Names.{key_named}
use Rattle.flat_content.specs.declared.stored_content.StoredContent.TheVariants.{Image}
use Rattle.flat_content.specs.Table.{TableState}
use Rattle.flat_content.proofs.Soundness.{room-same, set-by, table-set}
use Rattle.flat_content.proofs.table.ContentTable.set_image_blending_function.Goals as goal

pub invariant_of-self : goal.invariant_of-self
invariant_of-self c = (
  rw c.put.ensures.items (table-set _ c.in_ok-serial.serial _ c.self.invariant.0),
  λ e. room-same (c.self.invariant.1 e) c.put.ensures.count c.put.ensures.capacity,
)

pub returns-clause-set : goal.returns-clause-set
returns-clause-set c =
    let table : TableState = record {
      buffers = c.self.inside.buffers;
      contents = c.self.inside.contents.items;
      names = c.self.inside.names.items;
      viewports = c.self.inside.viewports.items;
      has_room = c.self.inside.has_room;
    } in
    let named : key_named table.names c.args.c.0 ≡ Some c.in_ok-serial.serial = search rules in
    let there : of_serial table.contents c.in_ok-serial.serial ≡ Some (Image c.in_ok-serial.image) = search rules in
    rw (← c.self.view_is) (set-by table c.args.c.0 c.in_ok-serial.serial (Image c.in_ok-serial.image) _ _ _ named there refl c.put.ensures.items)
