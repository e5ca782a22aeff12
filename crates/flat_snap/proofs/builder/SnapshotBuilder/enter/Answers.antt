use Rattle.std.proofs.Common.{◌≡◌, length, arith, ap, sym, ◌∙◌, ◌-◌, [], ◌∷◌, ◌++◌, Option, vec_capacity}
use Rattle.std.proofs.lemmas.List.{length_push, length-append}
use Rattle.flat_scene.specs.declared.trees.Children.TheVariants.{Empty}
use Rattle.flat_scene.specs.declared.trees.Content.{Content}
use Rattle.flat_snap.specs.declared.flat.PackedNode.{PackedNode}
use Rattle.flat_snap.specs.Flat.{lent, viewport_places}
use Rattle.flat_snap.specs.Forest.{as_node}
use Rattle.flat_snap.specs.Building.{Building, entered}
use Rattle.flat_snap.proofs.Wholes.{same-building}
use Rattle.flat_snap.proofs.Packing.{packed-enters, within-more, within-larger, noted, grown, whole-grown, building-grown, at_err}
use Rattle.flat_snap.proofs.builder.SnapshotBuilder.enter.Goals as goal

pub invariant_of-self-in_err-note : goal.invariant_of-self-in_err-note
invariant_of-self-in_err-note c =
    let g = grown c.self.inside.regions.items c.extend_from_slice.new.self.items c.args.node.now.hits.now c.self.inside.flat.items
    c.in_ok-extend_from_slice.ensures.items c.self.invariant.3 in (
      whole-grown _ _ c.self.inside.places.items g c.self.invariant.0,
      c.self.invariant.1,
      c.self.invariant.2,
      within-larger c.self.inside.regions.items c.extend_from_slice.new.self.items c.args.node.now.hits.now c.self.inside.flat.items
          c.in_ok-extend_from_slice.ensures.items c.self.invariant.3,
      c.in_err-note.ensures.err ∙ c.self.invariant.4,
    )

pub returns-in_err-note-clause-err : goal.returns-in_err-note-clause-err
returns-in_err-note-clause-err c =
    let g = grown c.self.inside.regions.items c.extend_from_slice.new.self.items c.args.node.now.hits.now c.self.inside.flat.items
    c.in_ok-extend_from_slice.ensures.items c.self.invariant.3 in
    at_err _ _ (building-grown _ _ _ c.self.inside.places.items g ∙ c.self.view_is)

pub invariant_of-self-2 : goal.invariant_of-self-2
invariant_of-self-2 c =
    let rs = c.self.inside.regions.items in
    let rs' = c.extend_from_slice.new.self.items in
    let flat = c.self.inside.flat.items in
    let places = c.self.inside.places.items in
    let n = lent c.args.node.now in
    let e = packed-enters rs rs' flat c.push_reserved.new.self.items places c.push_reserved-2.new.self.items n c.len-start.result c.len.result
    c.len-place.result
    c.self.invariant.0 c.self.invariant.3 c.in_ok-extend_from_slice.ensures.items (omega arith) (omega arith)
    (rw c.new.ensures at c.push_reserved.ensures.items) (omega arith) c.push_reserved-2.ensures.items in (
      e.is,
      omega arith,
      omega (
        arith,
        ap length c.push_reserved.ensures.items,
        ap length c.push_reserved-2.ensures.items,
        length_push flat c.new.result,
        length_push places c.len-place.result,
      ),
      within-more (length rs) (length rs') flat c.push_reserved.new.self.items n c.len-start.result c.len.result c.self.invariant.3
          (omega (arith, ap length c.in_ok-extend_from_slice.ensures.items, length-append rs n.hits)) (omega arith) (omega arith)
          (rw c.new.ensures at c.push_reserved.ensures.items),
      noted flat c.push_reserved.new.self.items c.new.result c.len-place.result c.self.inside.viewports.items c.note.new.viewports.items c.self.invariant.4
          (omega arith)
          c.push_reserved.ensures.items (c.in_ok-note.ensures.ok
          ∙ ap (λ (what : Option Content). c.self.inside.viewports.items ++ viewport_places c.len-place.result (what ∷ []))
          (sym (ap (λ (n : PackedNode). n.content) c.new.ensures))),
    )

pub returns-clause-ok : goal.returns-clause-ok
returns-clause-ok c =
    let rs = c.self.inside.regions.items in
    let rs' = c.extend_from_slice.new.self.items in
    let flat = c.self.inside.flat.items in
    let places = c.self.inside.places.items in
    let n = lent c.args.node.now in
    let e = packed-enters rs rs' flat c.push_reserved.new.self.items places c.push_reserved-2.new.self.items n c.len-start.result c.len.result
    c.len-place.result
    c.self.invariant.0 c.self.invariant.3 c.in_ok-extend_from_slice.ensures.items (omega arith) (omega arith)
    (rw c.new.ensures at c.push_reserved.ensures.items) (omega arith) c.push_reserved-2.ensures.items in
    let room : vec_capacity c.push_reserved.new.self - length c.push_reserved.new.self.items ≡ vec_capacity c.self.inside.flat - length flat - 1
    = omega (arith, ap length c.push_reserved.ensures.items, length_push flat c.new.result) in
    same-building _ _ _ _ room e.now ∙ ap (λ (b : Building). entered b (as_node n Empty)) c.self.view_is
