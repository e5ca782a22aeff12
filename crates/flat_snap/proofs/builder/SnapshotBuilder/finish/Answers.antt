use Rattle.std.proofs.Common.{◌≡◌, ◌≤◌, length, arith, ap, [], ◌∙◌}
use Rattle.flat_scene.specs.Trees.{nodes}
use Rattle.flat_snap.specs.Building.{Building}
use Rattle.flat_snap.specs.Inside.{whole_part}
use Rattle.flat_snap.specs.Packed.{unpacked_all}
use Rattle.flat_snap.proofs.Wholes.{closed-root}
use Rattle.flat_snap.proofs.builder.SnapshotBuilder.finish.Goals as goal

pub invariant_of-result : goal.invariant_of-result
invariant_of-result c =
    let ns = unpacked_all c.self.inside.regions.items c.self.inside.flat.items in
    let lists = whole_part ns c.self.inside.places.items in
    let closed : lists.path ≡ [] = ap (λ (b : Building). b.path) c.self.view_is ∙ c.requires.closed in
    let few : length (nodes lists.done) ≤ 1 = rw (ap (λ (b : Building). b.done) c.self.view_is) c.requires.one in
    rw (c.from_vec.ensures, c.from_vec-2.ensures, c.from_vec-3.ensures)
    (closed-root ns c.self.inside.places.items c.self.invariant.0 closed few, omega arith, c.self.invariant.3, c.self.invariant.4)
