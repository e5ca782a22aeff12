use Rattle.std.proofs.Common.{◌≡◌, [], ◌∷◌, ◌++◌, ◌+◌, ◌<◌, ◌^◌, length, None, false, ap, ◌∙◌, rules}
use Rattle.flat_graph.specs.Names.{key_named}
use Rattle.flat_content.specs.Table.{TableState, in_use}
use Rattle.flat_content.proofs.Soundness.{table-added}
use Rattle.flat_content.proofs.table.ContentTable.put_content.Goals as goal

pub invariant_of-self : goal.invariant_of-self
invariant_of-self c =
    let table : TableState = record {
      buffers = c.self.inside.buffers;
      contents = c.self.inside.contents.items;
      names = c.self.inside.names.items;
      viewports = c.self.inside.viewports.items;
      has_room = false;
    } in
    let absent : key_named c.self.inside.names.items c.args.c.0 ≡ None = search rules in
    let room : length c.self.inside.contents.items + 1 < 2 ^ 32 =
    (c.self.invariant.1 (ap (λ (t : TableState). t.has_room) c.self.view_is ∙ c.requires.room)).one_serial in
    let pushed : c.push_reserved.new.self.items ≡ c.self.inside.contents.items ++ c.args.stored ∷ [] = search rules in
    let counted : c.len-serial.result ≡ length c.self.inside.contents.items = search rules in
    let noted : c.note_use.new.viewports.items ≡ in_use c.args.stored (length c.self.inside.contents.items + 1) c.self.inside.viewports.items =
    search rules in (
      rw (c.put_name.ensures, pushed, noted, counted) (table-added table c.args.c.0 c.args.stored c.requires.some absent room c.self.invariant.0),
      λ e. absurd (cc),
    )
