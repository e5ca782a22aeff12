use Rattle.std.proofs.Common.{w32}
use Rattle.std.proofs.lemmas.Int.{to_z-of_z}
use Rattle.flat_scene.specs.declared.calls.Call.TheVariants as call
use Rattle.flat_places.proofs.lemmas.ReadsLemmas.{then, begin}
use Rattle.flat_forms.proofs.call_forms.set_translation.Goals as goal

pub returns : goal.returns
returns c = λ s a.
    simp (to_z-of_z w32 c.i32-x.result c.i32-x.ensures.fits, to_z-of_z w32 c.i32-y.result c.i32-y.ensures.fits)
    (then (then (begin (λ t x y. call.SetTranslation t x y) c.transform-t.ensures) c.i32-x.ensures.reads) c.i32-y.ensures.reads)
