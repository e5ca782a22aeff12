use Rattle.std.proofs.Common.{[], ◌∷◌, ap, arith, take, w64}
use Rattle.std.proofs.lemmas.Int.{to_z-of_z}
use Rattle.flat_page.specs.Words.{numbers}
use Rattle.flat_page.proofs.Filling.{page_writes}
use Rattle.flat_page.proofs.page.Page.places.Goals as goal

pub returns : goal.returns
returns c =
    let e = to_z-of_z w64 in
    let fills = simp (e c.args.a c.ranges.a, e c.args.b c.ranges.b, e c.args.c c.ranges.c, e c.args.d c.ranges.d) at c.write_places-self-inside.ensures in
    let slice = c.as_mut_slice.ensures in
    let kept = c.ensure_room.ensures.kept in
    let same = ap (take c.self.inside.len) slice.value in
    page_writes (numbers (c.args.a ∷ c.args.b ∷ c.args.c ∷ c.args.d ∷ [])) _ _ _ _ _ _ _ (cc) (omega (arith, slice.len, fills.long)) fills
