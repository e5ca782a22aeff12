use Rattle.std.proofs.Common.{◌≡◌, ap, sym, subst, length, arith}
use Rattle.std.proofs.lemmas.List.{length-map}
use Rattle.flat_scene.specs.declared.frames.ViewNode.{ViewNode}
use Rattle.flat_topology.specs.Join.{joined_sessions}
use Rattle.flat_topology.specs.Views.{view_nodes}
use Rattle.flat_topology.proofs.lemmas.Distinct.{Distinct, distinct-pairs}
use Rattle.flat_tree.proofs.Growing.{sessions_of, views-tree}
use Rattle.flat_tree.proofs.views_are_a_tree.Goals as goal

pub returns-clause-tree : goal.returns-clause-tree
returns-clause-tree c = λ setup shown fit.
    let sessions : sessions_of (view_nodes setup shown) ≡ joined_sessions setup shown = c.views_follow_links.ensures.sessions setup shown in
    views-tree setup shown (subst Distinct (sym sessions) (distinct-pairs (joined_sessions setup shown) (c.links_make_a_tree.ensures.once setup shown fit)))

pub returns-clause-few : goal.returns-clause-few
returns-clause-few c = λ setup shown fit.
    let sessions : sessions_of (view_nodes setup shown) ≡ joined_sessions setup shown = c.views_follow_links.ensures.sessions setup shown in
    let counted : length (sessions_of (view_nodes setup shown)) ≡ length (view_nodes setup shown) =
    length-map (view_nodes setup shown) (λ (v : ViewNode). v.session.0) in
    omega (arith, counted, ap length sessions, c.sessions_are_few.ensures setup shown fit)
