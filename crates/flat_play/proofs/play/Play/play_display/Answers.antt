use Rattle.std.proofs.Common.{rules, ◌≡◌, ◌≤◌, ◌∙◌, true, length, OnOk, refl, sym, ap, subst, arith}
use Rattle.std.proofs.lemmas.Result.{on_ok_weaker}
use Rattle.flat_base.specs.declared.ids.Actor.{Actor}
use Rattle.flat_base.specs.declared.ids.Actor.TheVariants.{Display}
use Rattle.flat_scene.specs.declared.script.LineBody.{LineBody}
use Rattle.flat_scene.specs.declared.script.LineBody.TheVariants as body
use Rattle.flat_scene.specs.declared.script.DisplayLine.TheVariants as display
use Rattle.flat_scene.specs.declared.script.ScriptLine.{ScriptLine}
use Rattle.flat_scene.specs.declared.setup.Setup.{Setup}
use Rattle.flat_scene.specs.Heads.{is_setup}
use Rattle.flat_core.specs.Starts.{IsStart, is_beside}
use Rattle.flat_rules.specs.Owned.{is_played_display}
use Rattle.flat_playable.specs.Playable.{is_played}
use Rattle.flat_play.specs.declared.store.FrameStore.{FrameStore}
use Rattle.flat_play.specs.Keeping.{keeping_of}
use Rattle.flat_play.specs.Last.{IsLast}
use Rattle.flat_play.specs.Runs.{PlaysLine}
use Rattle.flat_play.specs.Showing.{IsShown}
use Rattle.flat_play.proofs.lemmas.Beside.{leaves_frames, may_beside}
use Rattle.flat_play.proofs.lemmas.DisplaySteps.{display_share, begin_time_ok, done_ok, may_begin, may_finish}
use Rattle.flat_play.proofs.lemmas.FramesShown.{few_frames}
use Rattle.flat_play.proofs.lemmas.Places.{setup_is}
use Rattle.flat_play.proofs.lemmas.PlaySteps.{begin_more, display_finishes, finish_more, beside_more}
use Rattle.flat_play.proofs.lemmas.Starting.{few, by_at_most}
use Rattle.flat_play.proofs.lemmas.Storing.{answers_keep}
use Rattle.flat_play.proofs.lemmas.Steps.{At, at_place, one_line}
use Rattle.flat_play.proofs.Touching.{entered-on}
use Rattle.flat_play.proofs.play.Play.play_display.Goals as goal

-- ---- a begin

pub begin-requires-clause-may : goal.begin-requires-clause-may
begin-requires-clause-may g c =
    let x = c.at-line.result.now in
    let at : At c.args.script.now c.args.place x = at_place c.args.script.now c.args.place x c.requires.playable c.at-line.ensures in
    let says = c.requires.line x c.at-line.ensures in
    let is : x.body ≡ body.Display (display.Begin c.in-Begin.time) = says.1 ∙ ap (λ t. body.Display t) c.in-Begin.is in
    may_begin c.args.self.now.board c.in-Begin.time
    (display_share c.args.script.now c.args.place x at c.args.self.now.board c.requires.stands.shares says.0 c.requires.stands.spent)
    (begin_time_ok c.args.script.now c.args.place x at c.in-Begin.time is c.args.self.now.board.history c.requires.stands.display)

pub begin-requires-clause-start : goal.begin-requires-clause-start
begin-requires-clause-start g c =
    let self = c.args.self.now in
    subst (λ (setup : Setup). IsStart setup self.board.history self.start) (sym c.requires.stands.setup) c.requires.stands.frames.starts

pub returns-in-Begin-clause-plays : goal.returns-in-Begin-clause-plays
returns-in-Begin-clause-plays g c =
    let x = c.at-line.result.now in
    let at : At c.args.script.now c.args.place x = at_place c.args.script.now c.args.place x c.requires.playable c.at-line.ensures in
    let says = c.requires.line x c.at-line.ensures in
    let is : x.body ≡ body.Display (display.Begin c.in-Begin.time) = says.1 ∙ ap (λ t. body.Display t) c.in-Begin.is in
    let P : ScriptLine → Type 0 = λ line. PlaysLine c.args.script.now c.args.place line.number c.args.self.now c.begin.new.self in
    λ next is-next. subst P (one_line x next _ c.at-line.ensures is-next)
    (record {
      stands = begin_more c.args.script.now c.args.place x at c.args.self.now c.begin.new.self c.in-Begin.time says.0 is c.requires.stands c.begin.ensures;
      goes_on = entered-on _ _ _ _ _ _ _ c.begin.ensures.board;
      keeping = ap (λ (s : FrameStore). keeping_of s.kept) c.begin.ensures.store;
    })

pub returns-in-Begin-clause-shows : goal.returns-in-Begin-clause-shows
returns-in-Begin-clause-shows g c =
    IsShown.shows_none (display_finishes c.args.script.now.setup c.args.self.now.board c.begin.new.self.board _ _ _ refl c.begin.ensures.board) refl refl

-- ---- a done

pub finish-requires-clause-setup : goal.finish-requires-clause-setup
finish-requires-clause-setup g c = setup_is c.args.script.now c.requires.playable

pub finish-requires-clause-may : goal.finish-requires-clause-may
finish-requires-clause-may g c =
    let x = c.at-line.result.now in
    let at : At c.args.script.now c.args.place x = at_place c.args.script.now c.args.place x c.requires.playable c.at-line.ensures in
    let says = c.requires.line x c.at-line.ensures in
    let is : x.body ≡ body.Display display.Done = says.1 ∙ ap (λ t. body.Display t) c.in-Done.is in
    may_finish c.args.self.now.board
    (display_share c.args.script.now c.args.place x at c.args.self.now.board c.requires.stands.shares says.0 c.requires.stands.spent)
    (done_ok c.args.script.now c.args.place x at is c.args.self.now.board.history c.requires.stands.display)

pub finish-requires-clause-few : goal.finish-requires-clause-few
finish-requires-clause-few g c =
    let script = c.args.script.now in
    let all : length script.lines ≤ 16777216 = few script c.requires.playable in
    let most = by_at_most 0 script.lines in
    let spent = c.requires.stands.spent.spent 0 in
    let frames_made = few_frames _ _ c.journal-journal.ensures.legal in
    omega (arith, all, most, spent, frames_made)

pub returns-in-Done-clause-plays : goal.returns-in-Done-clause-plays
returns-in-Done-clause-plays g c =
    let x = c.at-line.result.now in
    let at : At c.args.script.now c.args.place x = at_place c.args.script.now c.args.place x c.requires.playable c.at-line.ensures in
    let says = c.requires.line x c.at-line.ensures in
    let is : x.body ≡ body.Display display.Done = says.1 ∙ ap (λ t. body.Display t) c.in-Done.is in
    let P : ScriptLine → Type 0 = λ line. OnOk c.finish.result (PlaysLine c.args.script.now c.args.place line.number c.args.self.now c.finish.new.self) in
    λ next is-next. subst P (one_line x next _ c.at-line.ensures is-next)
    (on_ok_weaker c.finish.result (λ finishes. record {
      stands = finish_more c.args.script.now c.args.place x at c.args.self.now c.finish.new.self says.0 is c.requires.stands finishes;
      goes_on = entered-on _ _ _ _ _ _ _ finishes.board;
      keeping = finishes.store.kept.same;
    }) c.finish.ensures.finishes)

-- ---- any other line

pub enter_beside-requires-clause-beside : goal.enter_beside-requires-clause-beside
enter_beside-requires-clause-beside g c = search rules

pub enter_beside-requires-clause-may : goal.enter_beside-requires-clause-may
enter_beside-requires-clause-may g c =
    let x = c.at-line.result.now in
    let at : At c.args.script.now c.args.place x = at_place c.args.script.now c.args.place x c.requires.playable c.at-line.ensures in
    let says = c.requires.line x c.at-line.ensures in
    let beside : is_beside c.args.text ≡ true = search rules in
    let script = c.args.script.now in
    let A : Actor → Type 0 = λ who. is_played script.setup who x.body ≡ true in
    let B : LineBody → Type 0 = λ all. is_played script.setup Display all ≡ true in
    let P : Setup → Type 0 = λ s. is_played_display s c.args.text ≡ true in
    may_beside c.args.self.now.board c.args.text beside
    (display_share c.args.script.now c.args.place x at c.args.self.now.board c.requires.stands.shares says.0 c.requires.stands.spent)
    (subst P (sym c.requires.stands.setup) (subst B says.1 (subst A says.0 at.played)))

pub enter_beside-requires-clause-setup : goal.enter_beside-requires-clause-setup
enter_beside-requires-clause-setup g c =
    subst (λ (setup : Setup). is_setup setup ≡ true) (sym c.requires.stands.setup) (setup_is c.args.script.now c.requires.playable)

pub enter_beside-requires-clause-is : goal.enter_beside-requires-clause-is
enter_beside-requires-clause-is g c =
    subst (λ (setup : Setup). IsLast setup c.args.self.now.store.last) (sym c.requires.stands.setup) c.requires.stands.frames.stored.ends.is

pub returns-in_default-clause-plays : goal.returns-in_default-clause-plays
returns-in_default-clause-plays g c =
    let script = c.args.script.now in
    let place = c.args.place in
    let new = c.enter_beside.new.self in
    let x = c.at-line.result.now in
    let at : At script place x = at_place script place x c.requires.playable c.at-line.ensures in
    let says = c.requires.line x c.at-line.ensures in
    let beside : is_beside c.args.text ≡ true = search rules in
    let P : ScriptLine → Type 0 = λ line. OnOk c.enter_beside.result (PlaysLine script place line.number c.args.self.now new) in
    λ next is-next. subst P (one_line x next _ c.at-line.ensures is-next)
    (on_ok_weaker c.enter_beside.result (λ enters. record {
      stands = beside_more script place x at c.args.self.now new c.args.text says.0 says.1 beside c.requires.stands enters;
      goes_on = entered-on _ _ _ _ _ _ _ enters.board;
      keeping = ap keeping_of (answers_keep _ _ c.args.text _ _ enters.store);
    }) c.enter_beside.ensures)

pub returns-in_default-clause-shows : goal.returns-in_default-clause-shows
returns-in_default-clause-shows g c =
    let beside : is_beside c.args.text ≡ true = search rules in
    on_ok_weaker c.enter_beside.result
    (λ enters. IsShown.shows_none (display_finishes c.args.script.now.setup c.args.self.now.board c.enter_beside.new.self.board _ _ _
    (leaves_frames c.args.text beside).no_finish enters.board) refl refl) c.enter_beside.ensures
