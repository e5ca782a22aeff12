-- How the views of a frame hang below each other.
use Rattle.std.proofs.Common.{ℕ, Option, Some, None}
use Rattle.std.proofs.lemmas.List.Elements.{All-weaker}
use Rattle.flat_base.specs.declared.ids.SessionNo.{SessionNo}
use Rattle.flat_scene.specs.declared.frames.ViewNode.{ViewNode}
use Rattle.flat_scene.specs.declared.setup.Setup.{Setup}
use Rattle.flat_scene.specs.Frames.{ratio, setup_at}
use Rattle.flat_scene.specs.Setups.{at_ratio}
use Rattle.flat_topology.specs.Fit.{FitsSetup}
use Rattle.flat_topology.specs.Laws.{ViewsBelowParents}
use Rattle.flat_topology.specs.Links.{IsChild}
use Rattle.flat_topology.specs.Shown.{Shown}
use Rattle.flat_topology.specs.Views.{view_nodes}
use Rattle.flat_topology.proofs.lemmas.Ratios.{fits-at}
use Rattle.flat_tree.specs.Laws.{ViewsAreATree}
use Rattle.flat_rules.specs.Laws.{ShownStatesFit}
use Rattle.flat_rules.specs.Shown.{shown_states}
use Rattle.flat_laws.specs.Shows.{FramesHaveViewTrees}

-- a pixel ratio plays no part in who hangs below whom
child-at : (r : ℕ) (setup : Setup) (shown : Shown) (c : ℕ) (parent : Option SessionNo) → IsChild (at_ratio r setup) shown c parent
    → IsChild setup shown c parent
child-at r setup shown c None top = record { pair = top.pair; viewport = top.viewport; view = top.view }
child-at r setup shown c (Some parent) below = below

pub frames-have-view-trees : ShownStatesFit → ViewsAreATree → ViewsBelowParents → FramesHaveViewTrees
frames-have-view-trees fit trees below setup begun legal =
    let states : Shown = shown_states setup begun in
    let at : Setup = setup_at setup begun in
    let fits : FitsSetup setup states = fit setup begun legal in
    record {
      tree = trees at states (fits-at (ratio setup begun) setup states fits);
      below = All-weaker (λ (v : ViewNode). IsChild at states v.session.0 v.parent) (λ (v : ViewNode). IsChild setup states v.session.0 v.parent)
          (λ v child. child-at (ratio setup begun) setup states v.session.0 v.parent child) (view_nodes at states) (below at states);
    }
