use Rattle.std.proofs.Common.{◌<◌, ℕ, List, length, subst, arith}
use Rattle.std.specs.List.{Contains}
use Rattle.flat_collect.specs.Marking.{Adds}
use Rattle.flat_collect.proofs.Finding.{finding-end, finding-more, finding-smaller, next-key}
use Rattle.flat_collect.proofs.Searches.{child_kept}
use Rattle.flat_collect.proofs.reached_nodes.ReachedNodes.find.Goals as goal

pub add_all-requires-clause-within : goal.add_all-requires-clause-within
add_all-requires-clause-within c = λ k has.
    c.loop-done.invariant.covers k (child_kept c.args.graph.now c.root.ensures.sound c.index-key.result.now k
    (subst (λ (keys : List ℕ). Contains keys k) c.children.ensures has))

pub loop-done-smaller : goal.loop-done-smaller
loop-done-smaller c =
    let more : c.loop-done.done < length c.loop-done.found.keys.items = omega (arith, c.loop-done-test.true, c.len.ensures, c.loop-done.found.keys.ok.0) in
    finding-smaller c.args.graph.now c.loop-done.found c.loop-done.done c.root.ensures.sound c.loop-done.invariant more

pub loop-done-preserved : goal.loop-done-preserved
loop-done-preserved c =
    let more : c.loop-done.done < length c.loop-done.found.keys.items = omega (arith, c.loop-done-test.true, c.len.ensures, c.loop-done.found.keys.ok.0) in
    finding-more c.args.graph.now c.loop-done.found c.add_all.new.self c.loop-done.done c.index-key.result.now c.loop-done.invariant
    (next-key c.loop-done.found.keys.items c.loop-done.done c.index-key.result.now more c.index-key.ensures)
    (subst (λ (keys : List ℕ). Adds keys c.loop-done.found c.add_all.new.self) c.children.ensures c.in_ok-add_all.ensures)

pub returns : goal.returns
returns c = finding-end c.args.graph.now c.loop-done.found c.loop-done.done c.loop-done.invariant
    (omega (arith, c.loop-done-test.false, c.len.ensures, c.loop-done.found.keys.ok.0))
