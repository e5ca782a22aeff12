use Rattle.std.proofs.Common.{◌∙◌, sym, refl, arith}
use Rattle.flat_join.proofs.Stating.{viewer-next, viewer-none}
use Rattle.flat_join.proofs.join_walk.viewer.Goals as goal

pub returns-then-shows-clause-found : goal.returns-then-shows-clause-found
returns-then-shows-clause-found c =
    let next = viewer-next c.args.shown.now c.loop-number.number c.args.pair (record { 0 = c.loop-number.number }) c.shows.result refl (omega arith)
    (omega arith) c.shows.ensures in
    sym (rw c.if-shows.true at next) ∙ c.loop-number.invariant

pub loop-number-preserved : goal.loop-number-preserved
loop-number-preserved c =
    let next = viewer-next c.args.shown.now c.loop-number.number c.args.pair (record { 0 = c.loop-number.number }) c.shows.result refl (omega arith)
    (omega arith) c.shows.ensures in
    sym (rw c.if-shows.false at next) ∙ c.loop-number.invariant

pub returns-clause-found : goal.returns-clause-found
returns-clause-found c = sym (viewer-none c.args.shown.now c.loop-number.number c.args.pair (omega arith)) ∙ c.loop-number.invariant
