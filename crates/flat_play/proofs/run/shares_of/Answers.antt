use Rattle.std.proofs.Common.{ℕ, List, take, slice_index, sym, ap, ◌∙◌, arith}
use Rattle.std.proofs.lemmas.List.{length-take}
use Rattle.flat_scene.specs.declared.script.ScriptLine.{ScriptLine}
use Rattle.flat_scene.specs.Journals.{seat_number}
use Rattle.flat_play.specs.Playing.{with_one_more}
use Rattle.flat_play.proofs.Shares.{line-counted, shares_few, shares_to}
use Rattle.flat_play.proofs.lemmas.Places.{take_at}
use Rattle.flat_play.proofs.run.shares_of.Goals as goal

pub count_line-requires : goal.count_line-requires
count_line-requires c =
    let lines : List ScriptLine = c.args.script.now.lines in
    let place : ℕ = c.loop-place.place in
    let few = shares_few (take place lines) c.args.script.now.setup.sessions (seat_number c.at.result.now.actor) in
    let short = length-take place lines in
    let all = c.requires in
    let is = ap (λ (shares : List ℕ). slice_index shares (seat_number c.at.result.now.actor)) c.loop-place.invariant in
    omega (arith, few, short, all, is)

pub loop-place-preserved : goal.loop-place-preserved
loop-place-preserved c =
    let lines : List ScriptLine = c.args.script.now.lines in
    let place : ℕ = c.loop-place.place in
    let sessions : ℕ = c.args.script.now.setup.sessions in
    c.count_line.ensures
    ∙ ap (with_one_more (seat_number c.at.result.now.actor)) c.loop-place.invariant
    ∙ line-counted (take place lines) c.at.result.now sessions
    ∙ ap (λ (ls : List ScriptLine). shares_to ls sessions) (sym (take_at lines place c.at.result.now c.at.ensures))
