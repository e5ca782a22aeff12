use Rattle.std.proofs.Common.{ℕ, List, [], ◌∷◌, ◌+◌, ◌*◌, ◌∙◌, get_or, set, refl, arith}
use Rattle.std.proofs.lemmas.List.{length-set}
use Rattle.flat_render.proofs.Colours.{colour-more}
use Rattle.flat_render.proofs.ppm.interleave.Goals as goal

pub loop-i-preserved : goal.loop-i-preserved
loop-i-preserved c =
    let i : ℕ = c.loop-i.i in
    let line : List ℕ = c.loop-i.line in
    let red : ℕ = get_or c.args.reds.now i 0 in
    let green : ℕ = get_or c.args.greens.now i 0 in
    let blue : ℕ = get_or c.args.blues.now i 0 in
    let one : List ℕ = set line (3 * i) red in
    let two : List ℕ = set one (3 * i + 1) green in
    record {
      size = length-set two (3 * i + 2) blue ∙ length-set one (3 * i + 1) green ∙ length-set line (3 * i) red ∙ c.loop-i.invariant.size;
      first = colour-more (λ k. get_or c.args.reds.now k 0 ∷ get_or c.args.greens.now k 0 ∷ get_or c.args.blues.now k 0 ∷ []) i red green blue line one two
          (set two (3 * i + 2) blue)
          (omega (arith, c.loop-i.invariant.size, c.requires.few, c.loop-i-test.true)) c.loop-i.invariant.first refl refl refl refl;
    }
