use Rattle.std.proofs.Common.{ℕ, ◌≡◌, ◌∙◌, ◌+◌, ◌-◌, ◌<◌, ◌++◌, ap, List, length, get_or, arith}
use Rattle.std.specs.Arc.{arc_value}
use Rattle.std.proofs.lemmas.List.{with_items_is}
use Rattle.flat_render.specs.declared.tile_grid.TileGrid.{TileGrid}
use Rattle.flat_render.specs.Grids.{band_bytes}
use Rattle.flat_render.specs.Strips.{rows_above, strip_in}
use Rattle.flat_render.proofs.StripSteps.{rows-grow, strip-more}
use Rattle.flat_render.proofs.strips.draw_strips.Goals as goal

pub loop-n-preserved : goal.loop-n-preserved
loop-n-preserved c =
    let g : TileGrid = c.args.plan.now.grid in
    let n : ℕ = c.loop-n.n in
    let drawn : List ℕ = c.draw_band.new.bytes in
    let band : List ℕ = c.as_slice-in-loop-n-2.result.now in
    let strip : List ℕ = arc_value c.in_ok-try_clone.field-0 in
    let room : c.swap.new.x.len ≡ band_bytes g = ap (λ v. v.len) c.swap.ensures.x_after ∙ c.loop-n.invariant.spare in
    let kept : length drawn ≡ c.swap.new.x.len = c.draw_band.auto.bytes ∙ c.as_mut_slice.ensures.len in
    let is : band ≡ drawn = c.as_slice-in-loop-n-2.ensures.value ∙ with_items_is c.swap.new.x drawn kept in
    let same : n ≡ n + 1 - 1 = omega arith in
    let there : n < g.down = omega (arith, c.loop-n-test.true, c.requires.there) in
    let size : length band ≡ band_bytes g = ap length is ∙ kept ∙ room in
    let more : rows_above c.args.plan.now.items.now g n ++ strip ≡ rows_above c.args.plan.now.items.now g (n + 1) =
    ap (λ (t : List ℕ). rows_above c.args.plan.now.items.now g n ++ t) (c.in_ok-try_clone.ensures ∙ c.in_ok-last-2.ensures)
    ∙ strip-more c.args.plan.now.items.now g n band c.requires.plan.grid there size
    (λ m small. ap (λ (xs : List ℕ). get_or xs m 0) is ∙ c.draw_band.ensures m (omega (arith, small, ap length is, c.draw_band.auto.bytes))) in
    record {
      room = room;
      spare = ap (λ v. v.len) c.swap.ensures.y_after ∙ c.loop-n.invariant.room;
      last = λ later. c.in_ok-last-2.ensures ∙ ap (λ (m : ℕ). strip_in g m band) same
          ∙ ap (λ (xs : List ℕ). strip_in g (n + 1 - 1) xs) c.as_slice-in-loop-n-2.ensures.value;
      rows = rows-grow arc_value _ _ _ c.loop-n.strips.items _ c.in_ok-try_clone.field-0 c.loop-n.invariant.rows more c.in_ok-push.ensures.items;
    }
