use Rattle.std.proofs.Common.{w32}
use Rattle.std.proofs.lemmas.Int.{to_z-of_z}
use Rattle.flat_scene.specs.declared.script.DisplayLine.TheVariants as display
use Rattle.flat_places.specs.Places.{point}
use Rattle.flat_places.proofs.lemmas.ReadsLemmas.{read_whole, then, begin}
use Rattle.flat_forms.proofs.forms.hit.Goals as goal

pub returns : goal.returns
returns c =
    let x = to_z-of_z w32 c.i32-x.result c.i32-x.ensures.fits in
    let y = to_z-of_z w32 c.i32-y.result c.i32-y.ensures.fits in
    read_whole (point (λ x y. display.Hit x y)) c.new-places.ensures.words c.new-places.ensures.sofar
    (then (begin (λ x y. display.Hit x y) c.i32-x.ensures.reads) c.i32-y.ensures.reads) (rw (x, y) at c.finish.ensures.reads)
