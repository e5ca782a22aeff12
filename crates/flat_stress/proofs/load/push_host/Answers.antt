use Rattle.std.proofs.Common.{◌++◌, ◌∷◌, []}
use Rattle.std.specs.List.{flat_map}
use Rattle.flat_stress.specs.Words.{from_to}
use Rattle.flat_stress.specs.Load.{opening, node, viewport, present}
use Rattle.flat_stress.proofs.Writing.{two}
use Rattle.flat_stress.proofs.load.push_host.Goals as goal

pub returns : goal.returns
returns c =
    let viewports = flat_map (λ i. node 1 i ++ viewport i) (from_to 2 8) in
    two (opening 1 ++ viewports) (present 1 0 ∷ []) _ _ _ (two (opening 1) viewports _ _ _ c.in_ok-push_opening.ensures c.in_ok-push_viewports.ensures)
    c.in_ok-push_present.ensures
