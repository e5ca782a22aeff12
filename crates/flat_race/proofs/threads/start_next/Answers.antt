use Rattle.std.proofs.Common.{rules, ℕ, List, Option, None, Some, slice_get, slice_index_or, ◌≡◌, ◌+◌, [], ap, sym, ◌∙◌, subst, arith}
use Rattle.std.proofs.lemmas.Option.{slice_get-get_or}
use Rattle.flat_base.specs.declared.ids.SessionNo.{SessionNo}
use Rattle.flat_stage.specs.Homes.{SeatsView, fresh_view}
use Rattle.flat_stage.specs.Seats.{SessionView}
use Rattle.flat_race.specs.OwnLines.{own_places}
use Rattle.flat_race.specs.PlaceLists.{ArePlaces}
use Rattle.flat_race.specs.SessionThreads.{IsOut}
use Rattle.flat_race.proofs.PlaceLists.{placed-next, placed-own}
use Rattle.flat_race.proofs.Outs.{is_next, left-more, left-next, next_is_fresh}
use Rattle.flat_race.proofs.threads.start_next.Goals as goal

pub unreachable-requires : goal.unreachable-requires
unreachable-requires g c =
    let view = c.args.context.now.stage.now in
    let k = c.args.before in
    let next = left-next view c.args.context.now.script.now.setup.sessions k c.args.seats.now.seats c.requires.next c.requires.left in
    let fresh : SessionView = fresh_view view (record { 0 = k + 1 }) in
    let wrong : ◌≡◌ {A = Option SessionView} None (Some fresh) = sym c.in_default.is ∙ c.take.ensures.seat ∙ next in
    cc

pub start-requires-clause-fresh : goal.start-requires-clause-fresh
start-requires-clause-fresh g c κs within = next_is_fresh c.args.context.now.stage.now c.args.context.now.script.now.setup.sessions c.args.before
    c.args.seats.now.seats c.in-Some.seat c.requires.next c.requires.left c.in-Some.ensures.seat

pub start-requires-clause-places : goal.start-requires-clause-places
start-requires-clause-places g c κs asked =
    let view = c.args.context.now.stage.now in
    let script = c.args.context.now.script.now in
    let k = c.args.before in
    let session = is_next view script.setup.sessions k c.args.seats.now.seats c.in-Some.seat c.requires.next c.requires.left c.in-Some.ensures.seat in
    let got : slice_get c.args.places.now.items k ≡ Some c.replace-own.result =
    (let old : c.replace-own.result ≡ slice_index_or c.args.places.now.items k c.index_mut.result.now = c.replace-own.ensures.value
    ∙ c.index_mut.ensures.value in
    let many = c.requires.many in
    let test = c.requires.next in
    slice_get-get_or c.args.places.now.items k c.index_mut.result.now (omega (arith, many, test)) ∙ ap Some (sym old)) in
    placed-own script.lines k c.args.places.now.items c.replace-own.result got c.requires.places
    ∙ ap (λ (s : SessionNo). own_places s script.lines) (sym session)

pub returns-clause-out : goal.returns-clause-out
returns-clause-out g c =
    let view = c.args.context.now.stage.now in
    let script = c.args.context.now.script.now in
    let session = is_next view script.setup.sessions c.args.before c.args.seats.now.seats c.in-Some.seat c.requires.next c.requires.left
    c.in-Some.ensures.seat in
    let O : SessionNo → Type 0 = λ s. IsOut view script s c.start.result in
    subst O session c.start.ensures

pub returns-clause-left : goal.returns-clause-left
returns-clause-left g c =
    left-more c.args.context.now.stage.now c.args.context.now.script.now.setup.sessions c.args.before c.args.seats.now.seats c.take.new.self.seats
    (ap (λ (s : SeatsView). s.seats) c.take.ensures.away) c.requires.left

pub returns-clause-places : goal.returns-clause-places
returns-clause-places g c =
    let script = c.args.context.now.script.now in
    subst (λ (ps : List (List ℕ)). ArePlaces script.lines (c.args.before + 1) ps) (sym (search rules))
    (placed-next script.lines c.args.before c.args.places.now.items [] c.requires.places)

pub start-requires-clause-playable : goal.start-requires-clause-playable
start-requires-clause-playable g c κs within = c.requires.playable

pub start-requires-clause-of : goal.start-requires-clause-of
start-requires-clause-of g c κs within = c.requires.of
