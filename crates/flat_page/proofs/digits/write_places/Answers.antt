use Rattle.std.proofs.Common.{[], ◌∷◌, sym, w64}
use Rattle.std.proofs.lemmas.Int.{to_z-of_z}
use Rattle.flat_page.specs.Words.{numbers}
use Rattle.flat_page.proofs.Filling.{fills_same, fills_then}
use Rattle.flat_page.proofs.lemmas.PageLemmas.{spaced-append}
use Rattle.flat_page.proofs.digits.write_places.Goals as goal

pub returns : goal.returns
returns c =
    let e = to_z-of_z w64 in
    let first = simp (e c.args.a c.ranges.a, e c.args.b c.ranges.b) at c.write_two_places-middle.ensures.fills in
    let last = simp (e c.args.c c.ranges.c, e c.args.d c.ranges.d) at c.write_two_places.ensures.fills in
    fills_same (sym (spaced-append (numbers (c.args.a ∷ c.args.b ∷ [])) (numbers (c.args.c ∷ c.args.d ∷ [])))) (fills_then first last)
