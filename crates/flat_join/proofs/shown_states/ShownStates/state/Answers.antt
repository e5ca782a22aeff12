use Rattle.std.proofs.Common.{◌-◌, ◌<◌, length, None, sym, ap, ◌∙◌, arith, slice_index_or}
use Rattle.std.specs.Prelude.{option_map, Option, List}
use Rattle.std.specs.Arc.{arc_value}
use Rattle.std.proofs.lemmas.List.{length-map}
use Rattle.flat_scene.specs.declared.trees.Tree.{Tree}
use Rattle.flat_join.proofs.Stating.{map-copied, map-at, state-at}
use Rattle.flat_join.proofs.shown_states.ShownStates.state.Goals as goal

pub returns : goal.returns
returns c =
    let items = c.self.inside.states.items in
    let within : c.args.s.0 - 1 < length items = omega (arith, ap length c.self.view_is, length-map items (option_map arc_value)) in
    map-copied arc_value c.as_ref.result
    ∙ ap (option_map arc_value) (c.as_ref.ensures.value ∙ c.index.ensures)
    ∙ map-at (option_map arc_value) items (c.args.s.0 - 1) c.index.result.now None within
    ∙ ap (λ (shown : List (Option Tree)). slice_index_or shown (c.args.s.0 - 1) None) c.self.view_is
    ∙ sym (state-at c.args.self.now c.args.s.0 c.requires.some)
