use Rattle.std.proofs.Common.{◌≡◌, ◌<◌, ℕ, List, ap, get_or, sym, ◌∙◌, slice_get, Some, length}
use Rattle.std.proofs.lemmas.Option.{slice_get-get_or}
use Rattle.flat_snap.specs.Flat.{flat_nodes, lent, viewport_places}
use Rattle.flat_why.proofs.ShownPairs.{any-viewport, contents_of, leads-there, leads_at, viewport-within}
use Rattle.flat_why.proofs.Searching.{any-at, none-all, none-first, none-more}
use Rattle.flat_why.proofs.standings.is_on_node.Goals as goal

pub loop-i-init : goal.loop-i-init
loop-i-init c = none-first (leads_at c.args.p.0 (contents_of (flat_nodes c.args.state.now))) (viewport_places 0 (contents_of (flat_nodes c.args.state.now)))

pub node-requires : goal.node-requires
node-requires c = rw c.viewport_nodes-i-items.ensures
    (viewport-within (flat_nodes c.args.state.now) c.loop-i.i-index 0 (rw c.viewport_nodes-i-items.ensures at c.loop-i-test.true))

pub loop-i-preserved : goal.loop-i-preserved
loop-i-preserved c =
    let ns = flat_nodes c.args.state.now in
    let places : List ℕ = viewport_places 0 (contents_of ns) in
    let i = c.loop-i.i-index in
    let low : i < length places = rw c.viewport_nodes-i-items.ensures at c.loop-i-test.true in
    let at : slice_get places i ≡ Some (get_or places i 0) = slice_get-get_or places i 0 low in
    let node : slice_get ns (get_or places i 0) ≡ Some (lent c.node.result) =
    ap (λ (xs : List ℕ). slice_get ns (get_or xs i 0)) (sym c.viewport_nodes-i-items.ensures) ∙ c.node.ensures in
    none-more (leads_at c.args.p.0 (contents_of ns)) places i (get_or places i 0) at c.loop-i.invariant
    (leads-there c.args.p.0 ns (get_or places i 0) (lent c.node.result) node ∙ sym c.leads_to.ensures ∙ c.if-leads_to.false)

pub returns-then-leads_to : goal.returns-then-leads_to
returns-then-leads_to c =
    let ns = flat_nodes c.args.state.now in
    let places : List ℕ = viewport_places 0 (contents_of ns) in
    let i = c.loop-i.i-index in
    let low : i < length places = rw c.viewport_nodes-i-items.ensures at c.loop-i-test.true in
    let at : slice_get places i ≡ Some (get_or places i 0) = slice_get-get_or places i 0 low in
    let node : slice_get ns (get_or places i 0) ≡ Some (lent c.node.result) =
    ap (λ (xs : List ℕ). slice_get ns (get_or xs i 0)) (sym c.viewport_nodes-i-items.ensures) ∙ c.node.ensures in
    sym (sym (any-viewport c.args.p.0 ns) ∙ any-at (leads_at c.args.p.0 (contents_of ns)) places i (get_or places i 0) at
    (leads-there c.args.p.0 ns (get_or places i 0) (lent c.node.result) node ∙ sym c.leads_to.ensures ∙ c.if-leads_to.true))

pub returns : goal.returns
returns c =
    let ns = flat_nodes c.args.state.now in
    let places : List ℕ = viewport_places 0 (contents_of ns) in
    sym (sym (any-viewport c.args.p.0 ns) ∙ none-all (leads_at c.args.p.0 (contents_of ns)) places c.loop-i.i-index
    (rw c.viewport_nodes-i-items.ensures at c.loop-i-test.false) c.loop-i.invariant)
