use Rattle.std.proofs.Common.{ℕ, ◌≡◌, ◌≤◌, ◌++◌, ◌∙◌, ap, List, [], ◌∷◌, ◌+◌, ◌*◌, min, get_or, arith}
use Rattle.std.proofs.lemmas.Nat.{row_fits}
use Rattle.flat_render.specs.Ppm.{row_bytes}
use Rattle.flat_render.specs.Rows.{colour_in}
use Rattle.flat_render.specs.declared.tile_grid.TileGrid.{TileGrid}
use Rattle.flat_render.proofs.lemmas.Bytes.{run-more}
use Rattle.flat_render.proofs.Runs.{run-colour}
use Rattle.flat_render.proofs.ppm.push_row.Goals as goal

pub loop-n-preserved : goal.loop-n-preserved
loop-n-preserved c =
    let g : TileGrid = c.args.grid.now in
    let n : ℕ = c.loop-n.n in
    let a : ℕ = min (n * g.tile_w) g.width in
    let first : ℕ = c.run_start-first.result in
    let size : ℕ = c.size_of_tiles-size.result in
    let bytes : List ℕ = c.args.bytes.now in
    run-more (λ x. colour_in g bytes x c.args.y)
    (λ i. get_or bytes (first + i) 0 ∷ get_or bytes (first + size + i) 0 ∷ get_or bytes (first + 2 * size + i) 0 ∷ [])
    a c.min-count.result (min ((n + 1) * g.tile_w) g.width) c.args.out.now.items c.loop-n.out.items c.push_run.new.out.items
    (omega (arith, c.min-count.ensures, c.saturating_sub.ensures)) c.loop-n.invariant
    (λ i small.
    run-colour g c.requires.grid bytes first size n i c.args.y (a + i) c.run_start-first.ensures.value c.size_of_tiles-size.ensures
    c.loop-n-test.true c.requires.y (omega (arith, c.min-count.ensures, small)) (omega (arith, c.min-count.ensures, c.saturating_sub.ensures, small)))
    c.in_ok-push_run.ensures

pub overflow_mul-n : goal.overflow_mul-n
overflow_mul-n c =
    let g : TileGrid = c.args.grid.now in
    omega (arith, row_fits c.loop-n.n g.tile_w g.across g.tile_w c.loop-n-test.true (omega arith), c.requires.grid.most_right)

pub push_run-requires-clause-there : goal.push_run-requires-clause-there
push_run-requires-clause-there c =
    omega (arith, c.run_start-first.ensures.there, c.size_of_tiles-size.ensures, c.requires.size, c.min-count.ensures)

pub returns : goal.returns
returns c =
    let g : TileGrid = c.args.grid.now in
    let all : c.loop-n.n ≡ g.across = omega (arith, c.loop-n-test.false, c.loop-n.auto.n-end) in
    let wide : g.width ≤ c.loop-n.n * g.tile_w = omega (arith, c.requires.grid.right, ap (λ (k : ℕ). k * g.tile_w) all) in
    let whole : min (c.loop-n.n * g.tile_w) g.width ≡ g.width = omega (arith, wide) in
    c.loop-n.invariant ∙ ap (λ (k : ℕ). c.args.out.now.items ++ row_bytes (colour_in g c.args.bytes.now) k c.args.y) whole
