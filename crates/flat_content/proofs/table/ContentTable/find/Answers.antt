use Rattle.std.proofs.Common.{◌≡◌, ◌≤◌, ◌<◌, Some, length, ◌-◌, ◌∙◌, refl, rules, arith}
use Rattle.flat_graph.specs.Names.{key_named}
use Rattle.std.proofs.lemmas.Option.{slice_get_read}
use Rattle.flat_content.proofs.Serials.{of_serial-place}
use Rattle.flat_content.proofs.table.ContentTable.find.Goals as goal

pub returns-clause-stored : goal.returns-clause-stored
returns-clause-stored c =
    let named : key_named c.self.inside.names.items c.args.c.0 ≡ Some c.in-Some.serial = search rules in
    let low : 1 ≤ c.in-Some.serial = c.self.invariant.0.sound.from_one c.args.c.0 c.in-Some.serial named in
    let high : c.in-Some.serial ≤ length c.self.inside.contents.items = c.self.invariant.0.sound.made c.args.c.0 c.in-Some.serial named in
    let within : c.in-Some.serial - 1 < length c.self.inside.contents.items = omega arith in
    rw (← c.self.view_is)
    (of_serial-place c.self.inside.contents.items c.in-Some.serial low
    ∙ slice_get_read c.self.inside.contents.items (length c.self.inside.contents.items) (c.in-Some.serial - 1) c.index.result.now refl within c.index.ensures)
