use Rattle.std.proofs.Common.{subst}
use Rattle.flat_scene.specs.declared.setup.Setup.{Setup}
use Rattle.flat_rules.specs.Legal.{Legal}
use Rattle.flat_play.proofs.lemmas.Places.{setup_is}
use Rattle.flat_play.proofs.lemmas.Storing.{may_follow}
use Rattle.flat_judge.proofs.Screens.{screen_finish}
use Rattle.flat_judge.proofs.replay_screen.ReplayScreen.end_frame.Goals as goal

pub finish-requires-clause-setup : goal.finish-requires-clause-setup
finish-requires-clause-setup c = setup_is c.args.script.now c.requires.playable

pub finish-requires-clause-follows : goal.finish-requires-clause-follows
finish-requires-clause-follows c =
    let self = c.args.self.now in
    let L : Setup → Type 0 = λ setup. Legal setup self.board.history in
    may_follow c.shown_states_fit.ensures.begun c.shown_states_fit.ensures.each c.args.script.now self.board.history self.start self.store
    (subst L c.requires.stands.setup c.journal-journal.ensures.legal) c.requires.few c.requires.stands.frames

pub returns-clause-stands : goal.returns-clause-stands
returns-clause-stands c =
    let self = c.args.self.now in
    screen_finish c.args.script.now self c.args.number c.done-frame.new.self c.requires.stands c.finish.new.self c.done-frame.ensures.entry
    (c.in_ok-finish.ensures.finishes self.board.history c.requires.stands.frames.stored c.requires.stands.frames.starts)
