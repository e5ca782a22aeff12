use Rattle.std.proofs.Common.{◌≡◌, ◌∙◌, ap, sym, subst, List, Bool, length, arith}
use Rattle.std.specs.Prelude.{is_some, count_by}
use Rattle.flat_graph.specs.declared.names.NamedNode.{NamedNode}
use Rattle.flat_graph.specs.State.{MayKeep, only_marked}
use Rattle.flat_collect.specs.Sweep.{IsSwept}
use Rattle.flat_collect.proofs.Sweeps.{may-keep, swept-found, swept-kept, swept-named}
use Rattle.flat_collect.proofs.sweeping.sweep.Goals as goal

pub returns-then-names-len-clause-swept : goal.returns-then-names-len-clause-swept
returns-then-names-len-clause-swept c =
    let names : length c.names.result.now ≡ length c.args.graph.now.names = ap (length {A = NamedNode}) c.names.ensures in
    let many : length c.args.graph.now.names ≡ count_by is_some c.args.graph.now.nodes = omega (arith, names, c.if-names-len.true, c.len.ensures) in
    swept-named c.args.graph.now c.root.ensures.sound many

pub returns-then-len-clause-swept : goal.returns-then-len-clause-swept
returns-then-len-clause-swept c =
    let many : length c.in_ok-found.found.keys.items ≡ count_by is_some c.args.graph.now.nodes =
    omega (arith, c.in_ok-found.found.keys.ok.0, c.len-2.ensures, c.if-len.true, c.len-3.ensures) in
    swept-found c.args.graph.now c.in_ok-found.found c.in_ok-found.ensures c.root.ensures.sound many

pub keep-requires : goal.keep-requires
keep-requires c = subst (λ (marks : List Bool). MayKeep marks c.args.graph.now) (sym c.as_slice.ensures.value)
    (may-keep c.args.graph.now c.in_ok-found.found c.in_ok-found.ensures)

pub returns-clause-swept : goal.returns-clause-swept
returns-clause-swept c =
    let kept = c.keep.ensures.kept ∙ ap (λ (marks : List Bool). only_marked marks c.args.graph.now) c.as_slice.ensures.value in
    subst (IsSwept c.args.graph.now) (sym kept) (swept-kept c.args.graph.now c.in_ok-found.found c.in_ok-found.ensures)
