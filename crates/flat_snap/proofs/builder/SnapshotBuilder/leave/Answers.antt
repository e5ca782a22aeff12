use Rattle.std.proofs.Common.{◌≡◌, ◌≢◌, List, length, arith, ap, [], sym, ◌∙◌, ◌-◌, vec_capacity, slice_set, get_or}
use Rattle.std.proofs.lemmas.List.{length-map, length-set, length_push}
use Rattle.flat_snap.specs.Building.{Building, Opened, left, closed}
use Rattle.flat_snap.specs.Flat.{viewport_places}
use Rattle.flat_snap.specs.Inside.{whole_part}
use Rattle.flat_snap.specs.Packed.{unpacked, unpacked_all}
use Rattle.flat_snap.proofs.Wholes.{leaves, same-building, with_end, ended}
use Rattle.flat_snap.proofs.Packing.{packed_end, unpacked-set, unpacked-there, within-set, contents-set}
use Rattle.flat_snap.proofs.builder.SnapshotBuilder.leave.Goals as goal

pub index_mut-requires : goal.index_mut-requires
index_mut-requires c =
    let ns = unpacked_all c.self.inside.regions.items c.self.inside.flat.items in
    let lists = whole_part ns c.self.inside.places.items in
    let has_open : lists.path ≢ [] = rw (ap (λ (b : Building). b.path) c.self.view_is) c.requires in
    let l = leaves ns c.self.inside.places.items c.in-Some.place c.pop.new.self.items c.self.invariant.0 has_open c.in-Some.ensures.items in
    omega (arith, l.within, length-map c.self.inside.flat.items (unpacked c.self.inside.regions.items))

pub invariant_of-self : goal.invariant_of-self
invariant_of-self c =
    let rs = c.self.inside.regions.items in
    let flat = c.self.inside.flat.items in
    let ns = unpacked_all rs flat in
    let size = length-map flat (unpacked rs) in
    let lists = whole_part ns c.self.inside.places.items in
    let has_open : lists.path ≢ [] = rw (ap (λ (b : Building). b.path) c.self.view_is) c.requires in
    let l = leaves ns c.self.inside.places.items c.in-Some.place c.pop.new.self.items c.self.invariant.0 has_open c.in-Some.ensures.items in
    let n = c.index_mut.result.now in
    let here : get_or flat c.in-Some.place n ≡ n = sym c.index_mut.ensures.value in
    let same = unpacked-there rs flat c.in-Some.place n n _ here (l.there (unpacked rs n)) in
    let is = l.is (with_end (unpacked rs n) c.len.result) (ended (unpacked rs n) l.innermost.node c.len.result _ same (omega (arith, size))) in (
      rw (unpacked-set rs flat c.in-Some.place n c.len.result) is,
      omega arith,
      omega (
        arith,
        length-set flat c.in-Some.place (packed_end n c.len.result),
        ap length c.in-Some.ensures.items,
        length_push c.pop.new.self.items c.in-Some.place,
      ),
      within-set (length rs) flat c.in-Some.place n c.len.result (omega (arith, l.within, size)) here c.self.invariant.3,
      c.self.invariant.4 ∙ ap (viewport_places 0) (sym (contents-set flat c.in-Some.place n c.len.result here)),
    )

pub returns-in-Some : goal.returns-in-Some
returns-in-Some c =
    let rs = c.self.inside.regions.items in
    let flat = c.self.inside.flat.items in
    let ns = unpacked_all rs flat in
    let size = length-map flat (unpacked rs) in
    let lists = whole_part ns c.self.inside.places.items in
    let has_open : lists.path ≢ [] = rw (ap (λ (b : Building). b.path) c.self.view_is) c.requires in
    let l = leaves ns c.self.inside.places.items c.in-Some.place c.pop.new.self.items c.self.invariant.0 has_open c.in-Some.ensures.items in
    let n = c.index_mut.result.now in
    let here : get_or flat c.in-Some.place n ≡ n = sym c.index_mut.ensures.value in
    let same = unpacked-there rs flat c.in-Some.place n n _ here (l.there (unpacked rs n)) in
    let u = packed_end n c.len.result in
    let room : vec_capacity c.self.inside.flat - length (slice_set flat c.in-Some.place u) ≡ vec_capacity c.self.inside.flat - length flat
    = omega (arith, length-set flat c.in-Some.place u) in
    let now = l.now (with_end (unpacked rs n) c.len.result) (ended (unpacked rs n) l.innermost.node c.len.result _ same (omega (arith, size))) in
    same-building _ _ _ _ room (rw (unpacked-set rs flat c.in-Some.place n c.len.result) now)
    ∙ ap (λ (path : List Opened). closed (vec_capacity c.self.inside.flat - length flat) path lists.done) (sym l.was)
    ∙ ap left c.self.view_is
