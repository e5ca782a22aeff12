use Rattle.std.proofs.Common.{rules, ◌≡◌, true, [], sym, subst}
use Rattle.flat_base.specs.declared.ids.Actor.TheVariants.{Display}
use Rattle.flat_scene.specs.declared.script.DisplayLine.{DisplayLine}
use Rattle.flat_scene.specs.declared.setup.Setup.{Setup}
use Rattle.flat_scene.specs.Interleave.{entry_of_display}
use Rattle.flat_core.specs.Machines.{MayCall}
use Rattle.flat_core.specs.Starts.{IsStart, is_beside}
use Rattle.flat_play.proofs.lemmas.Places.{setup_is}
use Rattle.flat_judge.proofs.Screens.{may_shut, screen_begin, screen_line}
use Rattle.flat_judge.proofs.replay_screen.ReplayScreen.enter.Goals as goal

pub begin-frame-requires-clause-start : goal.begin-frame-requires-clause-start
begin-frame-requires-clause-start c =
    let self = c.args.self.now in
    subst (λ (setup : Setup). IsStart setup self.board.history self.start) (sym c.requires.stands.setup) c.requires.stands.frames.starts

pub returns-in-Begin-clause-stands : goal.returns-in-Begin-clause-stands
returns-in-Begin-clause-stands c =
    let self = c.args.self.now in
    let M : DisplayLine → Type 0 = λ t. MayCall self.board Display [] (entry_of_display t) in
    let may = subst M c.in-Begin.is c.requires.may in
    screen_begin c.args.script.now self c.args.number c.begin-frame.new.self c.requires.stands c.in-Begin.time c.begin-frame.new.start
    (may_shut self.board.history c.in-Begin.time may.may.times) c.begin-frame.ensures.entry c.begin-frame.ensures.starts

pub answer_line-requires-clause-setup : goal.answer_line-requires-clause-setup
answer_line-requires-clause-setup c = setup_is c.args.script.now c.requires.playable

pub answer_line-requires-clause-is : goal.answer_line-requires-clause-is
answer_line-requires-clause-is c = c.requires.stands.frames.stored.ends.is

pub enter_display-reply-requires-clause-beside : goal.enter_display-reply-requires-clause-beside
enter_display-reply-requires-clause-beside c = search rules

pub returns-in_ok-answer_line-in_default-clause-stands : goal.returns-in_ok-answer_line-in_default-clause-stands
returns-in_ok-answer_line-in_default-clause-stands c =
    let beside : is_beside c.args.text ≡ true = search rules in
    screen_line c.args.script.now c.args.self.now c.args.number c.enter_display-reply.new.self c.requires.stands c.args.text c.enter_display-reply.result
    c.answer_line.new.self beside c.enter_display-reply.ensures.entry c.in_ok-answer_line-in_default.ensures.answers
