use Rattle.std.proofs.Common.{sym, ◌∙◌, arith}
use Rattle.flat_snap.specs.Flat.{FlatNode, flat_nodes, lent}
use Rattle.flat_why.specs.Blanks.{paints}
use Rattle.flat_why.proofs.Painting.{paints-flat}
use Rattle.flat_why.proofs.Searching.{any-at, none-all, none-first, none-more}
use Rattle.flat_why.proofs.blanks.some_paints.Goals as goal

pub loop-i-init : goal.loop-i-init
loop-i-init c = none-first (λ (n : FlatNode). paints n.content) (flat_nodes c.args.state.now)

pub loop-i-preserved : goal.loop-i-preserved
loop-i-preserved c = none-more (λ (n : FlatNode). paints n.content) (flat_nodes c.args.state.now) c.loop-i.i (lent c.node.result) c.node.ensures
    c.loop-i.invariant (sym c.paints.ensures ∙ c.if-paints.false)

pub returns-then-paints : goal.returns-then-paints
returns-then-paints c = sym (any-at (λ (n : FlatNode). paints n.content) (flat_nodes c.args.state.now) c.loop-i.i (lent c.node.result) c.node.ensures
    (sym c.paints.ensures ∙ c.if-paints.true)) ∙ paints-flat c.args.state.now

pub returns : goal.returns
returns c = sym (none-all (λ (n : FlatNode). paints n.content) (flat_nodes c.args.state.now) c.loop-i.i
    (omega (arith, c.loop-i-test.false, c.nodes-i-end.ensures)) c.loop-i.invariant) ∙ paints-flat c.args.state.now
