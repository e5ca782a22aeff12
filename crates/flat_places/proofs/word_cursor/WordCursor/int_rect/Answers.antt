use Rattle.std.proofs.Common.{w32}
use Rattle.std.proofs.lemmas.Int.{to_z-of_z}
use Rattle.flat_places.proofs.lemmas.ReadsLemmas.{then, begin}
use Rattle.flat_places.proofs.word_cursor.WordCursor.int_rect.Goals as goal

pub returns : goal.returns
returns c =
    simp (
      to_z-of_z w32 c.i32-x.result c.i32-x.ensures.fits,
      to_z-of_z w32 c.i32-y.result c.i32-y.ensures.fits,
      to_z-of_z w32 c.i32-w.result c.i32-w.ensures.fits,
      to_z-of_z w32 c.i32-h.result c.i32-h.ensures.fits,
    )
    (then (then (then (begin (λ x y w h. record { x = x; y = y; w = w; h = h }) c.i32-x.ensures.reads) c.i32-y.ensures.reads) c.i32-w.ensures.reads)
    c.i32-h.ensures.reads)
