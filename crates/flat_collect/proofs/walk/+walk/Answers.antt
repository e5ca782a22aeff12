use Rattle.std.proofs.Common.{ℕ, ◌≡◌, ◌-◌, inl, inr, suc, arith, slice_index_or, drop, []}
use Rattle.std.proofs.lemmas.List.{drop_all}
use Rattle.flat_graph.specs.Reasons.{links_in}
use Rattle.flat_collect.proofs.lemmas.Walking.{below-at, below-none, below-again, walking-deep, walking-full, walking-large, walking-more, walking-end}
use Rattle.flat_collect.proofs.walk.+walk.Goals.{then-levels-eq0-via-then-levels-eq0, then-levels-eq0-via-else-levels-eq0+then-nodes-eq-TREE_NODES_MAX}
use Rattle.flat_collect.proofs.walk.+walk.Goals as goal

pub returns-then-levels-eq0 : goal.returns-then-levels-eq0
returns-then-levels-eq0 t c =
    let w = rw (below-at (links_in c.args.graph.now) c.args.levels c.loop-key.key-index 0 c.args.keys.now (omega arith)) at c.loop-key.invariant in
    elim c.then-levels-eq0.branch [
      | then-levels-eq0-via-then-levels-eq0 v ↦ inl (walking-deep _ _ _ _ _ _ _ _ _ _ w v.if-levels-eq0.true)
      | then-levels-eq0-via-else-levels-eq0+then-nodes-eq-TREE_NODES_MAX v ↦ inr (walking-full _ _ _ _ _ _ _ _ _ _ w v.if-nodes-eq-TREE_NODES_MAX.true)
    ]

pub returns-then-not-branch : goal.returns-then-not-branch
returns-then-not-branch t c =
    let key : ℕ = slice_index_or c.args.keys.now c.loop-key.key-index 0 in
    let e : c.args.levels ≡ suc (c.args.levels - 1) = omega arith in
    let w = rw (below-at (links_in c.args.graph.now) c.args.levels c.loop-key.key-index 0 c.args.keys.now (omega arith)) at c.loop-key.invariant in
    let h = rw (
      c.if-not-branch.true,
      c.children.ensures,
      below-again (links_in c.args.graph.now) c.args.levels (c.args.levels - 1) (links_in c.args.graph.now key) e,
    ) at c.in_ok-walk.ensures in
    walking-large _ _ _ _ _ c.args.levels (c.args.levels - 1) _ _ _ _ e w h

pub loop-key-preserved : goal.loop-key-preserved
loop-key-preserved t c =
    let key : ℕ = slice_index_or c.args.keys.now c.loop-key.key-index 0 in
    let e : c.args.levels ≡ suc (c.args.levels - 1) = omega arith in
    let w = rw (below-at (links_in c.args.graph.now) c.args.levels c.loop-key.key-index 0 c.args.keys.now (omega arith)) at c.loop-key.invariant in
    let h = rw (
      c.if-not-branch.false,
      c.children.ensures,
      below-again (links_in c.args.graph.now) c.args.levels (c.args.levels - 1) (links_in c.args.graph.now key) e,
      c.in_ok-list_viewport.ensures,
    ) at
    c.in_ok-walk.ensures in
    walking-more _ _ _ _ _ c.args.levels (c.args.levels - 1) _ _ _ _ _ _ e w h

pub returns : goal.returns
returns t c =
    let none : drop c.loop-key.key-index c.args.keys.now ≡ [] = drop_all c.loop-key.key-index c.args.keys.now (omega arith) in
    let w = rw (none, below-none (links_in c.args.graph.now) c.args.levels) at c.loop-key.invariant in
    walking-end _ _ _ _ _ _ _ w
