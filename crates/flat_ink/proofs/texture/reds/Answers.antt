use Rattle.std.proofs.Common.{ℕ, ◌+◌, ◌*◌, ◌%◌, ◌-ℤ◌, ◌<◌, ◌≡◌, unsigned_abs, true, rules, refl, ap, ◌∙◌, arith}
use Rattle.std.proofs.lemmas.Int.{ints}
use Rattle.flat_geom.specs.Rectangles.{is_between}
use Rattle.flat_ink.specs.Inks.{tone}
use Rattle.flat_ink.specs.Colours.{red_at}
use Rattle.flat_ink.specs.Pixels.{centre, buffer_column}
use Rattle.flat_ink.specs.Textures.{rises_across, stride_of}
use Rattle.flat_ink.specs.declared.texture.Texture.{Texture}
use Rattle.flat_ink.proofs.lemmas.Steps.{column-step, red-step, stride-table}
use Rattle.flat_ink.proofs.texture.reds.Goals as goal

pub returns : goal.returns
returns c =
    let t : Texture = c.args.texture.now in
    let from : ℕ = c.args.from in
    let within : from < c.args.upto = omega (arith, c.if-from-upto.false) in
    let here : is_between t.columns.low t.columns.high (centre from) ≡ true = c.requires.within from (omega arith) within in
    let count : c.unsigned_abs.result ≡ unsigned_abs t.sample.w = search rules in
    let units : unsigned_abs (t.columns.high -ℤ t.columns.low) ≡ unsigned_abs t.sample.w * 65536 =
    c.if-not-is_by_units.ensures refl ∙ ap (λ (n : ℕ). n * 65536) count in
    let some : 0 < unsigned_abs t.sample.w = omega (arith, ints, c.requires.sample.w) in
    stride-table t.blend t.opacity c.red-first.result c.stride-stride.result from c.args.upto (λ p. red_at t.index (buffer_column t.columns t.sample t.flip p))
    c.tones_of.result
    c.tones_of.ensures.size
    (λ i small. c.tones_of.ensures.values i (omega (arith, c.requires.room))
    ∙ ap (tone t.blend t.opacity) (c.strides.ensures.values i (omega (arith, c.requires.room))))
    (λ i small.
    ap (λ (n : ℕ). (n + c.stride-stride.result * i) % 256) (c.red-first.ensures ∙ ap (red_at t.index) c.column.ensures)
    ∙ ap (λ (n : ℕ). (red_at t.index (buffer_column t.columns t.sample t.flip from) + n * i) % 256)
    (c.stride-stride.ensures.value ∙ ap stride_of c.rises.ensures)
    ∙ red-step (rises_across t.columns t.flip) t.index _ _ i
    (column-step t.columns t.sample from i here (c.requires.within (from + i) (omega arith) small) t.flip some units))
