use Rattle.std.proofs.Common.{ℕ, ◌<◌, ◌≤◌, List, length, take, arith, length-append}
use Rattle.std.proofs.lemmas.List.{length-take-le}
use Rattle.flat_io.proofs.Loops.{given-more}
use Rattle.flat_io.proofs.whole.read_all.Goals as goal

-- what was given before and what this read gave are more than the limit together
pub returns-then-count-limit-clause-refused : goal.returns-then-count-limit-clause-refused
returns-then-count-limit-clause-refused g c =
    let P : List ℕ → Type 0 = λ given. c.args.limit < length given in
    given-more _ _ _ c.loop-count.text.items c.read.new.into c.in-Ok-read.count P c.loop-count.invariant.given c.in-Ok-read.ensures.taken
    (let enough : c.in-Ok-read.count ≤ length c.read.new.into = omega (arith, c.in-Ok-read.ensures.within) in
    omega (arith, length-append c.loop-count.text.items (take c.in-Ok-read.count c.read.new.into), length-take-le c.in-Ok-read.count c.read.new.into enough))
