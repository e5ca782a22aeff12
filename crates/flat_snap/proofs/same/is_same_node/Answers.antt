use Rattle.std.proofs.Common.{◌≡◌, ap, rules, refl}
use Rattle.flat_snap.specs.Flat.{FlatNode}
use Rattle.flat_snap.proofs.same.is_same_node.Goals as goal

pub returns : goal.returns
returns c =
    let one = c.args.one.now in
    let other = c.args.other.now in
    let serial : one.serial ≡ other.serial = c.if-one-other.false in
    let opacity : one.opacity ≡ other.opacity = c.if-one-other-2.false in
    let end : one.end ≡ other.end = c.if-one-other-3.false in
    let scale : one.scale ≡ other.scale = search rules in
    let turn : one.turn ≡ other.turn = search rules in
    let place : one.place ≡ other.place = search rules in
    let clip : one.clip ≡ other.clip = c.if-not-is_same_area.ensures.0 refl in
    let content : one.content ≡ other.content = c.if-not-is_same_content.ensures.0 refl in (
      λ same. let hits : one.hits.now ≡ other.hits.now = c.are_same_regions.ensures.0 same in
          cc,
      λ equal. c.are_same_regions.ensures.1 (ap (λ (n : FlatNode). n.hits) equal),
    )
