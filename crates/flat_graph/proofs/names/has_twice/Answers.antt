use Rattle.std.proofs.Common.{◌∙◌, ◌+◌, ◌==◌, ◌||◌, Bool, get_or, drop, ap, refl, sym, rules, tests}
use Rattle.std.proofs.lemmas.List.{at_drop_all}
use Rattle.std.proofs.lemmas.Iterator.{YieldsList-from_slice}
use Rattle.std.proofs.lemmas.Iterator.Search.{any_from_yields_List}
use Rattle.flat_base.specs.declared.ids.TransformId.{TransformId}
use Rattle.flat_graph.proofs.Twice.{are_twice, twice-step}
use Rattle.flat_graph.proofs.names.has_twice.Goals as goal

pub loop-place-init : goal.loop-place-init
loop-place-init c = refl

pub returns-then-any : goal.returns-then-any
returns-then-any c =
    let d : TransformId = record { 0 = 0 } in
    let place = c.loop-place.place in
    let found = any_from_yields_List (λ (id : TransformId). (get_or c.args.ids.now place d).0 == id.0) _ _ c.any.result c.any.ensures.ran
    (YieldsList-from_slice _ c.iter.ensures.rest) (λ x b q k. search (rules, tests)) in
    let step = twice-step c.args.ids.now place d c.any.result c.loop-place-test.true found in
    sym (sym c.loop-place.invariant ∙ step ∙ ap (λ (b : Bool). b || are_twice (drop (place + 1) c.args.ids.now)) c.if-any.true)

pub loop-place-preserved : goal.loop-place-preserved
loop-place-preserved c =
    let d : TransformId = record { 0 = 0 } in
    let place = c.loop-place.place in
    let found = any_from_yields_List (λ (id : TransformId). (get_or c.args.ids.now place d).0 == id.0) _ _ c.any.result c.any.ensures.ran
    (YieldsList-from_slice _ c.iter.ensures.rest) (λ x b q k. search (rules, tests)) in
    let step = twice-step c.args.ids.now place d c.any.result c.loop-place-test.true found in
    sym (step ∙ ap (λ (b : Bool). b || are_twice (drop (place + 1) c.args.ids.now)) c.if-any.false) ∙ c.loop-place.invariant

pub returns : goal.returns
returns c = sym (at_drop_all are_twice c.args.ids.now c.loop-place.place c.loop-place-test.false) ∙ c.loop-place.invariant
