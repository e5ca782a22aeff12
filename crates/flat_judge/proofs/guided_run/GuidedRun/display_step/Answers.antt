use Rattle.std.proofs.Common.{refl, sym, ◌∙◌, arith}
use Rattle.flat_play.proofs.lemmas.Starting.{few}
use Rattle.flat_play.proofs.lemmas.Steps.{at_place}
use Rattle.flat_judge.proofs.DisplayLines.{display_room, displays, frames_below, may_enter}
use Rattle.flat_judge.proofs.RunSteps.{line_enters, line_passes}
use Rattle.flat_scene.specs.Interleave.{entry_of_display}
use Rattle.flat_judge.specs.GuidedRuns.{DisplayGoes}
use Rattle.flat_judge.proofs.guided_run.GuidedRun.display_step.Goals as goal

pub enter-requires-clause-may : goal.enter-requires-clause-may
enter-requires-clause-may c =
    let script = c.args.script.now in
    let guided = c.args.self.now in
    let x = c.at-line.result.now in
    let at = at_place script guided.place x c.requires.playable c.at-line.ensures in
    let is = displays script guided.place x at c.in-Some.text (sym c.display_text.ensures ∙ c.in-Some.is) in
    may_enter script guided.place x at c.in-Some.text is guided.screen.board c.requires.stands.screen.setup
    (display_room script guided.place x at c.in-Some.text is guided.screen.board c.requires.stands.screen.shares c.requires.stands.spent)
    c.requires.stands.display

pub enter-requires-clause-few : goal.enter-requires-clause-few
enter-requires-clause-few c =
    let guided = c.args.self.now in
    frames_below c.args.script.now c.requires.playable _ guided.screen.board.history _ c.journal-journal.ensures.legal c.requires.stands.spent

pub overflow_add-self : goal.overflow_add-self
overflow_add-self c = omega (arith, few c.args.script.now c.requires.playable, c.requires.within)

pub overflow_add-self-in-None : goal.overflow_add-self-in-None
overflow_add-self-in-None c = omega (arith, few c.args.script.now c.requires.playable, c.requires.within)

pub returns-in_ok-enter-in-Some-clause-stands : goal.returns-in_ok-enter-in-Some-clause-stands
returns-in_ok-enter-in-Some-clause-stands c =
    let script = c.args.script.now in
    let guided = c.args.self.now in
    let x = c.at-line.result.now in
    let at = at_place script guided.place x c.requires.playable c.at-line.ensures in
    let is = displays script guided.place x at c.in-Some.text (sym c.display_text.ensures ∙ c.in-Some.is) in
    line_enters script guided _ x at c.requires.within c.requires.stands refl c.in-Some.text is c.in_ok-enter-in-Some.ensures.stands
    c.in_ok-enter-in-Some.ensures.enters refl refl refl

pub returns-in-None-clause-stands : goal.returns-in-None-clause-stands
returns-in-None-clause-stands c =
    let script = c.args.script.now in
    let guided = c.args.self.now in
    let x = c.at-line.result.now in
    let at = at_place script guided.place x c.requires.playable c.at-line.ensures in
    line_passes script guided _ x at c.requires.within c.requires.stands refl (sym c.display_text.ensures ∙ c.in-None.is) refl refl refl refl

pub returns-in_ok-enter-in-Some-clause-goes : goal.returns-in_ok-enter-in-Some-clause-goes
returns-in_ok-enter-in-Some-clause-goes c = DisplayGoes.enters c.at-line.result.now.number (entry_of_display c.in-Some.text)
    c.in_ok-enter-in-Some.ensures.enters

pub returns-in-None-clause-goes : goal.returns-in-None-clause-goes
returns-in-None-clause-goes c = DisplayGoes.stays refl
