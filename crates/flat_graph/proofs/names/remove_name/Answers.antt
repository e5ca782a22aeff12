use Rattle.std.proofs.Common.{◌∙◌, ◌<◌, arith, length}
use Rattle.flat_graph.proofs.lemmas.NameLemmas.{place-there, remove-but}
use Rattle.flat_graph.proofs.names.remove_name.Goals as goal

pub remove-requires : goal.remove-requires
remove-requires c =
    let h : c.place_of-place.result < length c.args.names.now.items =
    place-there c.args.id c.args.names.now.items c.place_of-place.result c.requires.rising (rw c.deref.ensures.value at c.place_of-place.ensures)
    c.requires.there in
    omega (arith, c.deref.ensures.len)

pub returns-clause-items : goal.returns-clause-items
returns-clause-items c =
    c.remove.ensures.items
    ∙ remove-but c.args.id c.args.names.now.items c.place_of-place.result c.requires.rising (rw c.deref.ensures.value at c.place_of-place.ensures)
    c.requires.there
