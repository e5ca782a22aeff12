use Rattle.std.proofs.Common.{ℕ, ◌<◌, ◌∙◌, ap, if◌then◌else◌, length, arith}
use Rattle.flat_ink.specs.Areas.{has_pixel}
use Rattle.flat_tile.specs.Tiles.{x_at, y_at, pixels_of}
use Rattle.flat_tile.proofs.lemmas.Planes.{which-channel, some-pixels}
use Rattle.flat_tile.proofs.tile.blacken.Goals as goal

pub returns : goal.returns
returns c = λ m small.
    let first : m < length c.ink_channel.new.bytes = omega (arith, c.ink_channel.auto.bytes) in
    let second : m < length c.ink_channel-2.new.bytes = omega (arith, c.ink_channel-2.auto.bytes) in
    let black = λ (o : ℕ). if has_pixel c.args.window (x_at c.args.tile m) (y_at c.args.tile m) then 0 else o in
    which-channel (pixels_of c.args.tile) m (some-pixels c.args.tile c.requires.tile) (omega (arith, c.requires.size))
    (λ e. c.ink_channel-3.ensures.others m second (λ f. absurd (omega (arith, e, f)))
    ∙ c.ink_channel-2.ensures.others m first (λ f. absurd (omega (arith, e, f)))
    ∙ c.ink_channel.ensures.there m small e)
    (λ e. c.ink_channel-3.ensures.others m second (λ f. absurd (omega (arith, e, f))) ∙ c.ink_channel-2.ensures.there m first e
    ∙ ap black (c.ink_channel.ensures.others m small (λ f. absurd (omega (arith, e, f)))))
    (λ e. c.ink_channel-3.ensures.there m second e
    ∙ ap black (c.ink_channel-2.ensures.others m first (λ f. absurd (omega (arith, e, f)))
    ∙ c.ink_channel.ensures.others m small (λ f. absurd (omega (arith, e, f)))))
