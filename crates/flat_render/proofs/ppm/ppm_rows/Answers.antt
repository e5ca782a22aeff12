use Rattle.std.proofs.Common.{ℕ, ◌≡◌, ◌+◌, ◌-◌, ◌∙◌, ap, List, [], arith}
use Rattle.flat_render.specs.Pictures.{width_of, pixel_of}
use Rattle.flat_render.specs.Ppm.{row_bytes}
use Rattle.flat_render.specs.Rows.{colour_in, rows_bytes}
use Rattle.flat_render.specs.declared.picture.Picture.{Picture}
use Rattle.flat_render.proofs.lemmas.Bytes.{piece-more}
use Rattle.flat_render.proofs.ppm.ppm_rows.Goals as goal

pub loop-y-preserved : goal.loop-y-preserved
loop-y-preserved c =
    let p : Picture = c.args.picture.now in
    let from : ℕ = c.args.from in
    let y : ℕ = c.loop-y.y in
    let k : ℕ = y - from in
    let at : y ≡ from + k = omega (arith, c.loop-y.auto.y) in
    let next : k + 1 ≡ y + 1 - from = omega (arith, c.loop-y.auto.y) in
    piece-more (λ i. row_bytes (λ x j. pixel_of p x (from + j)) (width_of p) i) k [] c.loop-y.out.items
    (row_bytes (colour_in p.grid c.as_slice.result.now) p.grid.width y) c.push_row.new.out.items c.loop-y.invariant
    (ap (λ (xs : List ℕ). row_bytes (colour_in p.grid xs) p.grid.width y) c.as_slice.ensures.value ∙ ap (λ (m : ℕ). row_bytes (pixel_of p) p.grid.width m) at)
    c.in_ok-push_row.ensures
    ∙ ap (λ (m : ℕ). rows_bytes (λ x j. pixel_of p x (from + j)) (width_of p) m) next
