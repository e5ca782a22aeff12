use Rattle.std.proofs.Common.{refl, arith, ap, ◌∙◌, List, [], ◌∷◌, ◌++◌}
use Rattle.flat_snap.specs.Flat.{flat_nodes}
use Rattle.flat_reuse.specs.declared.session_walk.NodeSpan.{NodeSpan}
use Rattle.flat_reuse.specs.declared.session_walk.SessionWalk.{SessionWalk}
use Rattle.flat_reuse.proofs.Tracing.{whole_span, tree-low, starts, taken, taken-goes-on, work-taken}
use Rattle.flat_reuse.proofs.session_walk.parts_in.Goals as goal

pub loop-span-init : goal.loop-span-init
loop-span-init c =
    starts c.args.session.0 c.args.state.now c.args.scope c.nodes-2.result (record { parts = c.in_ok-parts.parts; left = c.push.new.self }) c.requires.low
    c.nodes-2.ensures c.in_ok-parts.ensures
    (c.in_ok-push.ensures.items ∙ ap (λ (left : List NodeSpan). left ++ whole_span c.nodes-2.result c.args.scope ∷ []) c.new.ensures.items)

pub take-requires-clause-is : goal.take-requires-clause-is
take-requires-clause-is c =
    let trace : SessionWalk = record { parts = c.loop-span.trace.parts; left = c.pop.new.self } in
    (taken c.args.session.0 (flat_nodes c.args.state.now) _ c.in-Some.span c.loop-span.trace trace c.loop-span.invariant c.in-Some.ensures.items refl).is

pub take-requires-clause-whole : goal.take-requires-clause-whole
take-requires-clause-whole c =
    let trace : SessionWalk = record { parts = c.loop-span.trace.parts; left = c.pop.new.self } in
    (taken c.args.session.0 (flat_nodes c.args.state.now) _ c.in-Some.span c.loop-span.trace trace c.loop-span.invariant c.in-Some.ensures.items refl).whole

pub take-requires-clause-low : goal.take-requires-clause-low
take-requires-clause-low c = tree-low c.args.state.now c.requires.opacities

pub loop-span-smaller : goal.loop-span-smaller
loop-span-smaller c = omega (
  arith,
  c.in_ok-take.ensures.work,
  work-taken (flat_nodes c.args.state.now) c.loop-span.trace.left.items c.pop.new.self.items c.in-Some.span c.in-Some.ensures.items,
)

pub loop-span-preserved : goal.loop-span-preserved
loop-span-preserved c =
    let trace : SessionWalk = record { parts = c.loop-span.trace.parts; left = c.pop.new.self } in
    let t = taken c.args.session.0 (flat_nodes c.args.state.now) _ c.in-Some.span c.loop-span.trace trace c.loop-span.invariant c.in-Some.ensures.items refl in
    taken-goes-on c.args.session.0 (flat_nodes c.args.state.now) _ c.in-Some.span trace c.take.new.self t c.in_ok-take.ensures.goes
