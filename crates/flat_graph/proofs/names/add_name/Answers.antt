use Rattle.std.proofs.Common.{◌≡◌, ◌≤◌, arith, length}
use Rattle.std.proofs.lemmas.Grind.{common_steps}
use Rattle.flat_graph.specs.Names.{names_with}
use Rattle.std.specs.List.{insert}
use Rattle.flat_graph.proofs.lemmas.NameLemmas.{place-within, insert-with}
use Rattle.flat_graph.proofs.names.add_name.Goals as goal

pub insert-requires : goal.insert-requires
insert-requires c = let h : c.place_of-place.result ≤ length c.args.names.now.items =
    rw c.deref.ensures.value at (place-within _ _ _ c.place_of-place.ensures) in omega (arith, c.deref.ensures.len)

pub returns-clause-ok : goal.returns-clause-ok
returns-clause-ok c =
    let is : insert c.args.names.now.items c.place_of-place.result c.args.name ≡ names_with c.args.name c.args.names.now.items =
    insert-with c.args.name c.args.names.now.items c.place_of-place.result (rw c.deref.ensures.value at c.place_of-place.ensures) c.requires.absent in
    grind (arith, common_steps)
