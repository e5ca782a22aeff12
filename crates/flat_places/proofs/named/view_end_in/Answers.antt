use Rattle.std.proofs.Common.{◌≡◌, sym, ◌∙◌, Some, slice_get}
use Rattle.flat_places.proofs.ChoiceLemmas.{found_at, owned_none, owned_by}
use Rattle.flat_places.proofs.named.view_end_in.Goals as goal

pub returns-in_default : goal.returns-in_default
returns-in_default c =
    let script = c.args.script.now.script in
    sym (owned_none _ script.pairs script.setup.pairs _ c.args.word.now _ c.pair_place.ensures c.in_default.is)

pub returns-in-Some-get : goal.returns-in-Some-get
returns-in-Some-get c =
    let script = c.args.script.now.script in
    let got : slice_get script.setup.pairs c.in-Some.i ≡ Some c.in-Some-get.pair.now =
    found_at script.setup.pairs c.as_slice.result.now c.in-Some.i c.in-Some-get.pair.now c.as_slice.ensures c.in-Some-get.ensures.lookup.0
    c.in-Some-get.ensures.lookup.1 in
    sym (owned_by _ script.pairs script.setup.pairs _ c.args.word.now _ c.in-Some.i (Some c.in-Some-get.pair.now) _ c.pair_place.ensures c.in-Some.is got
    (sym c.is_session.ensures ∙ c.if-is_session.true))

pub returns-in_default-get : goal.returns-in_default-get
returns-in_default-get c =
    let script = c.args.script.now.script in
    let got : slice_get script.setup.pairs c.in-Some.i ≡ Some c.in-Some-get.pair.now =
    found_at script.setup.pairs c.as_slice.result.now c.in-Some.i c.in-Some-get.pair.now c.as_slice.ensures c.in-Some-get.ensures.lookup.0
    c.in-Some-get.ensures.lookup.1 in
    sym (owned_by _ script.pairs script.setup.pairs _ c.args.word.now _ c.in-Some.i (Some c.in-Some-get.pair.now) _ c.pair_place.ensures c.in-Some.is got
    (sym c.is_session.ensures ∙ c.if-is_session.false))
