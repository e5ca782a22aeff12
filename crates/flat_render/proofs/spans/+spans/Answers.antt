use Rattle.std.proofs.Common.{ℕ, ◌≡◌, ◌∙◌, ◌-◌, ◌*◌, ap, length, arith}
use Rattle.flat_render.specs.Grids.{band_bytes}
use Rattle.flat_render.specs.Stored.{drawn_at}
use Rattle.flat_render.proofs.SpanSteps.{cut-size, spans-joined}
use Rattle.flat_render.proofs.spans.+spans.Goals as goal

pub draw_span-draw_both-requires-clause-back : goal.draw_span-draw_both-requires-clause-back
draw_span-draw_both-requires-clause-back g t c κs within =
    let b : ℕ = band_bytes c.args.plan.now.grid in
    let from : ℕ = c.args.span.from in
    let upto : ℕ = c.args.span.upto in
    let cut : ℕ = c.cut_of-cut.result in
    let mid : ℕ = (cut - from) * c.bytes_of_bands.result in
    let size : mid ≡ (cut - from) * b = ap (λ (m : ℕ). (cut - from) * m) c.bytes_of_bands.ensures in
    let split = c.split_at_mut-front.ensures in
    record {
      some = c.cut_of-cut.ensures.before;
      there = c.requires.span.there;
      size =
          omega (
            arith,
            split.back_len,
            size,
            c.requires.span.size,
            cut-size from cut b (omega (arith, c.cut_of-cut.ensures.after)),
            cut-size cut upto b (omega (arith, c.cut_of-cut.ensures.before)),
            cut-size from upto b (omega (arith, c.requires.span.some)),
          );
    }

pub draw_span-returns : goal.draw_span-returns
draw_span-returns g t c = λ i small.
    let b : ℕ = band_bytes c.args.plan.now.grid in
    let from : ℕ = c.args.span.from in
    let cut : ℕ = c.cut_of-cut.result in
    let split = c.split_at_mut-front.ensures in
    let size : length c.draw_both.new.front ≡ (cut - from) * b =
    c.draw_both.auto.front ∙ split.front_len ∙ ap (λ (m : ℕ). (cut - from) * m) c.bytes_of_bands.ensures in
    spans-joined (λ k. drawn_at c.args.plan.now.grid c.args.plan.now.items.now k) b from cut c.draw_both.new.front c.draw_both.new.back
    (omega (arith, c.cut_of-cut.ensures.after)) size
    (λ k low. c.draw_both.ensures.front k (omega (arith, low, c.draw_both.auto.front)))
    (λ k low. c.draw_both.ensures.back k (omega (arith, low, c.draw_both.auto.back)))
    i (omega (arith, small, c.draw_both.auto.front, c.draw_both.auto.back, split.front_len, split.back_len))
