use Rattle.std.proofs.Common.{[], ◌∷◌, ◌++◌, ◌≡◌, ◌+◌, ℕ, List, length, take, ap, sym, ◌∙◌, subst, arith}
use Rattle.std.proofs.lemmas.List.{length-replicate, length-take, replicate-append-replicate, take_all}
use Rattle.flat_scene.specs.declared.script.ScriptLine.{ScriptLine}
use Rattle.flat_play.proofs.lemmas.Places.{take_at}
use Rattle.flat_race.specs.PlaceLists.{ArePlaces}
use Rattle.flat_race.proofs.PlaceLists.{declared-at, none-repeated, noted-line, noted-long, placed-none}
use Rattle.std.proofs.lemmas.Result.{IfOk-from_err}
use Rattle.flat_race.proofs.own_lines.places_by_session.Goals as goal

pub loop-place-init : goal.loop-place-init
loop-place-init c = record {
  count = ap length c.loop.invariant ∙ length-replicate c.loop.counter [] ∙ omega (arith, c.loop.auto.counter-end, c.loop-test.false);
  each = placed-none c.args.script.now.lines c.loop.places.items (none-repeated c.loop.counter c.loop.places.items c.loop.invariant);
}

pub note-requires : goal.note-requires
note-requires c = λ s who. (
    let within = declared-at c.args.script.now c.loop-place.place c.at.result.now s c.requires c.at.ensures who in
    let count = c.loop-place.invariant.count in
    let few = within.1 in (within.0, omega (arith, count, few))
    )

pub loop-place-preserved : goal.loop-place-preserved
loop-place-preserved c =
    let lines : List ScriptLine = c.args.script.now.lines in
    let place : ℕ = c.loop-place.place in
    let short = length-take place lines in
    let long : length (take place lines) ≡ place = omega (arith, short) in
    let count = c.loop-place.invariant.count in
    let noted_is = c.in_ok-note.ensures in record {
      count = ap length noted_is ∙ noted-long c.at.result.now.actor place c.loop-place.places.items ∙ count;
      each = subst (λ (ps : List (List ℕ)). ArePlaces (take (place + 1) lines) 0 ps) (sym noted_is)
          (noted-line lines place c.at.result.now (take_at lines place c.at.result.now c.at.ensures) long c.loop-place.places.items
          (λ s who. let within = declared-at c.args.script.now place c.at.result.now s c.requires c.at.ensures who in let few = within.1 in
          (within.0, omega (arith, count, few))) c.loop-place.invariant.each);
    }

pub returns-clause-each : goal.returns-clause-each
returns-clause-each c =
    subst (λ (ls : List ScriptLine). ArePlaces ls 0 c.loop-place.places.items) (take_all c.loop-place.place c.args.script.now.lines (omega arith))
    c.loop-place.invariant.each

pub returns-in_err-push-clause-count : goal.returns-in_err-push-clause-count
returns-in_err-push-clause-count c = IfOk-from_err _ _ c.from_residual.ensures.0

pub returns-in_err-push-clause-each : goal.returns-in_err-push-clause-each
returns-in_err-push-clause-each c = IfOk-from_err _ _ c.from_residual.ensures.0

pub returns-in_err-note-clause-count : goal.returns-in_err-note-clause-count
returns-in_err-note-clause-count c = IfOk-from_err _ _ c.from_residual-in_err-note.ensures.0

pub returns-in_err-note-clause-each : goal.returns-in_err-note-clause-each
returns-in_err-note-clause-each c = IfOk-from_err _ _ c.from_residual-in_err-note.ensures.0

pub returns-clause-count : goal.returns-clause-count
returns-clause-count c = c.loop-place.invariant.count

pub loop-preserved : goal.loop-preserved
loop-preserved c = c.in_ok-push.ensures.items ∙ (λ i. c.loop.invariant i ++ c.new.ensures i ∷ []) ∙ replicate-append-replicate c.loop.counter 1 []
