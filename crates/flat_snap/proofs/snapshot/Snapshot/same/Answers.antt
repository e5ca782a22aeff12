use Rattle.std.proofs.Common.{ap, sym, ◌∙◌}
use Rattle.flat_snap.specs.Flat.{flat_nodes}
use Rattle.flat_snap.proofs.Sameness.{tree-same}
use Rattle.flat_snap.proofs.snapshot.Snapshot.same.Goals as goal

pub returns : goal.returns
returns c =
    let view = sym c.view.ensures ∙ c.is_same_view.ensures.0 c.if-not-is_same_view.false ∙ c.view-2.ensures in
    let uses = sym (c.as_slice.ensures ∙ c.viewports.ensures) ∙ c.are_same_uses.ensures.0 c.if-not-are_same_uses.false
    ∙ (c.as_slice-2.ensures ∙ c.viewports-2.ensures) in
    (λ h. tree-same c.args.self.now c.args.other.now view uses (c.are_same_nodes.ensures.0 h), λ e. c.are_same_nodes.ensures.1 (ap flat_nodes e))
