use Rattle.std.proofs.Common.{ℕ, ◌+◌, ◌*◌, ◌%◌, ◌-ℤ◌, ◌<◌, ◌≡◌, unsigned_abs, true, rules, refl, ap, ◌∙◌, arith}
use Rattle.std.proofs.lemmas.Int.{ints}
use Rattle.flat_geom.specs.Rectangles.{is_between}
use Rattle.flat_ink.specs.Inks.{tone}
use Rattle.flat_ink.specs.Colours.{green_at}
use Rattle.flat_ink.specs.Pixels.{centre, buffer_row}
use Rattle.flat_ink.specs.Textures.{rises_down, stride_of}
use Rattle.flat_ink.specs.declared.texture.Texture.{Texture}
use Rattle.flat_ink.proofs.lemmas.Steps.{row-down, green-step, stride-table}
use Rattle.flat_ink.proofs.texture.greens.Goals as goal

pub returns : goal.returns
returns c =
    let t : Texture = c.args.texture.now in
    let from : ℕ = c.args.from in
    let within : from < c.args.upto = omega (arith, c.if-from-upto.false) in
    let here : is_between t.rows.low t.rows.high (centre from) ≡ true = c.requires.within from (omega arith) within in
    let count : c.unsigned_abs.result ≡ unsigned_abs t.sample.h = search rules in
    let units : unsigned_abs (t.rows.high -ℤ t.rows.low) ≡ unsigned_abs t.sample.h * 65536 =
    c.if-not-is_by_units.ensures refl ∙ ap (λ (n : ℕ). n * 65536) count in
    let some : 0 < unsigned_abs t.sample.h = omega (arith, ints, c.requires.sample.h) in
    stride-table t.blend t.opacity c.green-first.result c.stride-stride.result from c.args.upto (λ p. green_at (buffer_row t.rows t.sample t.flip p))
    c.tones_of.result
    c.tones_of.ensures.size
    (λ i small. c.tones_of.ensures.values i (omega (arith, c.requires.room))
    ∙ ap (tone t.blend t.opacity) (c.strides.ensures.values i (omega (arith, c.requires.room))))
    (λ i small.
    ap (λ (n : ℕ). (n + c.stride-stride.result * i) % 256) (c.green-first.ensures ∙ ap (green_at) c.row.ensures)
    ∙ ap (λ (n : ℕ). (green_at (buffer_row t.rows t.sample t.flip from) + n * i) % 256) (c.stride-stride.ensures.value ∙ ap stride_of c.sinks.ensures)
    ∙ green-step (rises_down t.rows t.flip) _ _ i (row-down t.rows t.sample from i here (c.requires.within (from + i) (omega arith) small) t.flip some units))
