use Rattle.std.proofs.Common.{◌≡◌, ◌<◌, ℕ, List, Option, Some, sym, ◌∙◌, subst, arith}
use Rattle.std.specs.Prelude.{option_to_list}
use Rattle.std.specs.List.{Contains}
use Rattle.flat_graph.specs.declared.names.NamedNode.{NamedNode}
use Rattle.flat_graph.specs.State.{IsKept}
use Rattle.flat_collect.specs.Marking.{Adds}
use Rattle.flat_collect.proofs.Counting.{keys_of, listed-named}
use Rattle.flat_collect.proofs.Finding.{finding-begin, listed-root}
use Rattle.flat_collect.proofs.reached_nodes.ReachedNodes.starts.Goals as goal

pub add_some-requires-clause-within : goal.add_some-requires-clause-within
add_some-requires-clause-within c = λ k has.
    let root : c.root.result ≡ Some k = listed-root c.root.result k has in
    let kept : IsKept c.args.graph.now.nodes k = c.requires.root_kept k (sym c.root.ensures.value ∙ root) in
    let low : k < c.places.result = c.places.ensures k kept in
    omega (arith, low, c.in_ok-found.ensures.places)

pub add_names-requires-clause-within : goal.add_names-requires-clause-within
add_names-requires-clause-within c = λ k has.
    let named = listed-named c.args.graph.now.names c.requires.rising k (subst (λ (names : List NamedNode). Contains (keys_of names) k) c.names.ensures has) in
    let kept : IsKept c.args.graph.now.nodes k = c.requires.names_kept named.0 k named.1 in
    let low : k < c.places.result = c.places.ensures k kept in
    omega (arith, low, c.in_ok-found.ensures.places, c.in_ok-add_some.ensures.places)

pub returns : goal.returns
returns c =
    let rooted : Adds (option_to_list c.args.graph.now.root) c.in_ok-found.found c.add_some.new.self =
    subst (λ (root : Option ℕ). Adds (option_to_list root) c.in_ok-found.found c.add_some.new.self) c.root.ensures.value c.in_ok-add_some.ensures in
    let named : Adds (keys_of c.args.graph.now.names) c.add_some.new.self c.add_names.new.self =
    subst (λ (names : List NamedNode). Adds (keys_of names) c.add_some.new.self c.add_names.new.self) c.names.ensures c.in_ok-add_names.ensures in
    finding-begin c.args.graph.now c.in_ok-found.found c.add_some.new.self c.add_names.new.self c.requires
    (λ k kept. let low : k < c.places.result = c.places.ensures k kept in omega (arith, low, c.in_ok-found.ensures.places)) c.in_ok-found.ensures.empty
    c.in_ok-found.ensures.listed rooted named
