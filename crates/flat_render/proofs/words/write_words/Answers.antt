use Rattle.std.proofs.Common.{ℕ, ◌+◌, ◌*◌, ◌∙◌, List, min, arith}
use Rattle.std.proofs.lemmas.List.{length-take, length-drop}
use Rattle.flat_render.specs.Pictures.{pixel_of}
use Rattle.flat_render.specs.Words.{xrgb}
use Rattle.flat_render.specs.declared.tile_grid.TileGrid.{TileGrid}
use Rattle.flat_render.proofs.RowWords.{part-more, run-word}
use Rattle.flat_render.proofs.words.write_words.Goals as goal

pub loop-n-preserved : goal.loop-n-preserved
loop-n-preserved c =
    let g : TileGrid = c.args.picture.now.grid in
    let n : ℕ = c.loop-n.n in
    let a : ℕ = c.min-from.result in
    let bytes : List ℕ = c.as_slice-bytes.result.now in
    part-more (λ x old. xrgb (pixel_of c.args.picture.now x c.args.y)) c.args.line.now c.loop-n.line c.write_run.new.line
    a (min ((n + 1) * g.tile_w) g.width) _ (min (n * g.tile_w) g.width) c.min-from.ensures
    (omega (arith, c.min-from.ensures)) (omega (arith, c.loop-n.auto.line, c.requires.room)) (omega (arith, c.min-upto.ensures))
    (c.write_run.auto.line ∙ simp (length-take, length-drop) (omega (arith, c.loop-n.auto.line, c.requires.room, c.min-from.ensures, c.min-upto.ensures)))
    c.loop-n.invariant
    (λ i small.
    c.write_run.ensures i (simp (length-take, length-drop) (omega (arith, c.loop-n.auto.line, c.requires.room, c.min-from.ensures, c.min-upto.ensures, small)))
    ∙ run-word c.args.picture.now bytes c.run_start-first.result c.size_of_tiles-size.result n i c.args.y (a + i) c.as_slice-bytes.ensures.value
    c.run_start-first.ensures.value c.size_of_tiles-size.ensures
    c.loop-n-test.true c.requires.y (omega (arith, small, c.min-from.ensures)) (omega (arith, small, c.min-from.ensures))
    (omega (
      arith,
      small,
      c.min-from.ensures,
      c.run_start-first.ensures.there,
      c.size_of_tiles-size.ensures,
      c.as_slice-bytes.ensures.len,
      c.args.picture.now.filled,
    )))
