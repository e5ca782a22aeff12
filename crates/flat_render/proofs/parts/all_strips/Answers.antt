use Rattle.std.proofs.Common.{◌≡◌, ◌++◌, subst, List, ℕ, IfOk}
use Rattle.std.specs.Arc.{arc_value}
use Rattle.std.specs.List.{flat_map}
use Rattle.flat_render.specs.Strips.{rows_above}
use Rattle.flat_render.proofs.StripSteps.{none-above}
use Rattle.flat_render.proofs.parts.all_strips.Goals as goal

pub returns : goal.returns
returns g c =
    let plan = c.args.plan.now in
    subst (λ (before : List ℕ). IfOk c.span_strips.result
    (λ strips. rows_above plan.items.now plan.grid plan.grid.down ≡ before ++ flat_map arc_value strips.items))
    (none-above plan.items.now plan.grid) c.span_strips.ensures
