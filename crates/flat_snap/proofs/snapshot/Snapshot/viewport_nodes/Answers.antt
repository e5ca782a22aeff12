use Rattle.std.proofs.Common.{◌∙◌, ap, sym, map, List}
use Rattle.flat_scene.specs.declared.trees.Tree.{Tree}
use Rattle.flat_snap.specs.Flat.{FlatNode, flat_nodes, viewport_places}
use Rattle.flat_snap.proofs.Packing.{contents-unpacked}
use Rattle.flat_snap.proofs.snapshot.Snapshot.viewport_nodes.Goals as goal

pub returns : goal.returns
returns c =
    c.as_slice.ensures ∙ c.self.invariant.3
    ∙ ap (viewport_places 0)
    (sym (contents-unpacked c.self.inside.regions c.self.inside.flat) ∙ ap (λ (ns : List FlatNode). map (λ n. n.content) ns) c.self.invariant.0
    ∙ ap (λ (tree : Tree). map (λ n. n.content) (flat_nodes tree)) c.self.view_is)
