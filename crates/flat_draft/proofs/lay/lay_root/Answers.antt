use Rattle.std.proofs.Common.{◌∙◌, ap, sym}
use Rattle.flat_snap.specs.Building.{adds}
use Rattle.flat_snap.proofs.lemmas.Adding.{adds-none}
use Rattle.flat_draft.proofs.Laying.{no-root}
use Rattle.flat_draft.proofs.lay.lay_root.Goals as goal

pub returns-in-None : goal.returns-in-None
returns-in-None c =
    let none = sym c.root.ensures.value ∙ c.in-None.is in
    sym (ap (adds c.args.builder.now) (no-root c.args.graph.now c.args.contents.now none) ∙ adds-none c.args.builder.now)
