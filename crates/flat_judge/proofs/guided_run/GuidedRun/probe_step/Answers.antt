use Rattle.std.proofs.Common.{rules, ◌≡◌, ℕ, ◌+◌, List, true, false, refl, sym, ap, ◌∙◌, arith, slice_get, slice_set, subst}
use Rattle.flat_scene.specs.Setups.{at_ratio}
use Rattle.flat_report.specs.declared.probes.ProbeAnswer.{ProbeAnswer}
use Rattle.flat_rules.specs.Legal.{frames}
use Rattle.flat_play.proofs.lemmas.Slots.{got-other}
use Rattle.flat_judge.proofs.HeedingSteps.{behind-same, behind-waits, line-answered}
use Rattle.flat_play.proofs.lemmas.Starting.{few}
use Rattle.flat_play.proofs.lemmas.Steps.{at_place}
use Rattle.flat_judge.specs.declared.guided_run.GuidedRun.{GuidedRun}
use Rattle.flat_judge.specs.GuidedRuns.{ProbeGoes}
use Rattle.flat_judge.proofs.ProbePlaces.{probe-goes}
use Rattle.flat_judge.proofs.RunSteps.{has_answers, probe_answers, probe_passes}
use Rattle.flat_judge.proofs.guided_run.GuidedRun.probe_step.Goals as goal

pub at-line-requires : goal.at-line-requires
at-line-requires c = c.requires.within c.at-place.result.now c.at-place.ensures

pub answer-requires-clause-probe : goal.answer-requires-clause-probe
answer-requires-clause-probe c = has_answers c.args.script.now c.args.self.now c.args.probe c.requires.stands c.requires.probe

pub overflow_add-place : goal.overflow_add-place
overflow_add-place c = omega (arith, few c.args.script.now c.requires.playable, c.requires.within c.at-place.result.now c.at-place.ensures)

pub overflow_add-place-in-None : goal.overflow_add-place-in-None
overflow_add-place-in-None c = omega (arith, few c.args.script.now c.requires.playable, c.requires.within c.at-place.result.now c.at-place.ensures)

pub returns-in_ok-answer-in-Some-clause-stands : goal.returns-in_ok-answer-in-Some-clause-stands
returns-in_ok-answer-in-Some-clause-stands c =
    let script = c.args.script.now in
    let guided = c.args.self.now in
    let place = c.at-place.result.now in
    let x = c.at-line.result.now in
    let at = at_place script place x c.requires.playable c.at-line.ensures in
    probe_answers script guided c.args.probe place c.requires.probe c.at-place.ensures (c.requires.within place c.at-place.ensures) x at c.requires.stands
    c.answer.new.self _ c.in-Some.asked (sym c.asked_here.ensures ∙ c.in-Some.is) c.answer.ensures.others
    c.in_ok-answer-in-Some.ensures.last c.in_ok-answer-in-Some.ensures.answers refl refl refl c.set.ensures refl

pub returns-in-None-clause-stands : goal.returns-in-None-clause-stands
returns-in-None-clause-stands c =
    let script = c.args.script.now in
    let guided = c.args.self.now in
    let place = c.at-place.result.now in
    let x = c.at-line.result.now in
    let at = at_place script place x c.requires.playable c.at-line.ensures in
    probe_passes script guided c.args.probe place c.requires.probe c.at-place.ensures (c.requires.within place c.at-place.ensures) x at c.requires.stands _
    (sym c.asked_here.ensures ∙ c.in-None.is) refl refl refl c.set-in-None.ensures refl

pub returns-in_ok-answer-in-Some-clause-heeds : goal.returns-in_ok-answer-in-Some-clause-heeds
returns-in_ok-answer-in-Some-clause-heeds c =
    let script = c.args.script.now in
    let guided = c.args.self.now in
    let place = c.at-place.result.now in
    let x = c.at-line.result.now in
    let at = at_place script place x c.requires.playable c.at-line.ensures in
    let due : c.args.is_due ≡ true = search rules in
    line-answered script guided c.args.probe place c.requires.stands c.at-place.ensures
    (has_answers script guided c.args.probe c.requires.stands c.requires.probe) x at c.in-Some.asked (sym c.asked_here.ensures ∙ c.in-Some.is)
    (at_ratio guided.screen.store.last.ratio script.setup) guided.screen.store.last.reuse c.answer.new.self.answers.items c.in_ok-answer-in-Some.ensures.answers
    c.args.is_due
    due

pub returns-in_ok-answer-in-Some-clause-others : goal.returns-in_ok-answer-in-Some-clause-others
returns-in_ok-answer-in-Some-clause-others c = λ n apart.
    ap (λ (os : List (List ProbeAnswer)). slice_get os n) c.in_ok-answer-in-Some.ensures.answers
    ∙ got-other c.args.self.now.answers.items c.args.probe n _ apart

pub returns-in-None-clause-heeds : goal.returns-in-None-clause-heeds
returns-in-None-clause-heeds c = λ last named one could at due has.
    behind-same c.args.probe (frames c.args.self.now.screen.board.history) named one c.args.self.now.answers.items at has

pub returns-then-not-is_due-clause-heeds : goal.returns-then-not-is_due-clause-heeds
returns-then-not-is_due-clause-heeds c = λ last named one could at due has.
    let waits : c.args.is_due ≡ false = search rules in
    behind-waits c.args.script.now last c.args.probe (frames c.args.self.now.screen.board.history) named one c.args.self.now.answers.items could at
    (sym due ∙ waits) has

pub returns-in_ok-answer-in-Some-clause-goes : goal.returns-in_ok-answer-in-Some-clause-goes
returns-in_ok-answer-in-Some-clause-goes c =
    let guided = c.args.self.now in
    let place = c.at-place.result.now in
    let same : c.answer.new.self.places ≡ guided.places = ap (λ (r : GuidedRun). r.places) c.answer.ensures.others in
    let P : List ℕ → Type 0 = λ ps. ProbeGoes c.args.probe c.args.is_due true guided.places ps in
    subst P (ap (λ (ps : List ℕ). slice_set ps c.args.probe (place + 1)) (sym same) ∙ sym c.set.ensures)
    (probe-goes guided.places c.args.probe place c.args.is_due c.requires.probe c.at-place.ensures)
