use Rattle.std.proofs.Common.{ℕ, ◌<◌, ◌≡◌, sym, subst, true, nat_lt, List, Vec, length, arith}
use Rattle.std.specs.declared.alloc.Global.{Global}
use Rattle.std.proofs.lemmas.Bool.Decides.{nat_tests}
use Rattle.flat_render.specs.Bands.{ServesRow}
use Rattle.flat_render.proofs.band.draw_band.Goals as goal

below : (i n : ℕ) → true ≡ nat_lt i n → i < n
below i n h = grind (arith, nat_tests)

pub sorted-requires-clause-places : goal.sorted-requires-clause-places
sorted-requires-clause-places c =
    let rows : List (Vec ℕ Global) = c.args.plan.now.rows.now in
    let all : ℕ = length c.args.plan.now.items.now in
    subst (λ (places : List ℕ). ServesRow c.args.plan.now.grid c.args.row c.args.plan.now.items.now places all) (sym c.as_slice.ensures.value)
    (subst (λ (list : Vec ℕ Global). ServesRow c.args.plan.now.grid c.args.row c.args.plan.now.items.now list.items all) (sym c.in-Some.ensures.lookup.1)
    (c.requires.plan.rows c.args.row c.in-Some.places.now (below c.args.row (length rows) c.in-Some.ensures.lookup.0)))
