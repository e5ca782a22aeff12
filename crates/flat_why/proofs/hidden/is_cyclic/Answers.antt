use Rattle.std.proofs.Common.{◌+◌, ◌-◌, ◌<◌, length, sym, ap, ◌∙◌}
use Rattle.flat_why.specs.Noted.{stands_in}
use Rattle.flat_why.proofs.Cycles.{apart-tested, comes, go-on}
use Rattle.flat_why.proofs.hidden.is_cyclic.Goals as goal

pub loop-preserved : goal.loop-preserved
loop-preserved c =
    let standings = c.args.standings.now in
    let stands = stands_in standings in
    let n = length standings in
    let low : c.loop.counter < n = c.loop-test.true in
    ap (comes stands c.args.s (n - (c.loop.counter + 1))) c.standing_of-standing-in-loop.ensures
    ∙ sym (go-on stands c.args.s n c.loop.counter c.loop.standing c.in-Below.above low c.in-Below.is
    (apart-tested c.in-Below.above.0 c.args.s.0 c.if-above-s.false))
    ∙ c.loop.invariant
