use Rattle.std.proofs.Common.{◌*◌, min}
use Rattle.flat_render.specs.Pictures.{pixel_of}
use Rattle.flat_render.specs.Words.{xrgb}
use Rattle.flat_ink.proofs.lemmas.Lines.{IsChangedTo}
use Rattle.flat_render.proofs.words.write_words.Given as goal

abbrev pub invariant-loop-n : goal.invariant-loop-n
invariant-loop-n l = IsChangedTo (λ x old. xrgb (pixel_of l.picture x l.y)) l.initial.line l.line (min (l.n * l.picture.grid.tile_w) l.picture.grid.width)
