use Rattle.std.proofs.Common.{◌≡◌, ◌∙◌, true, OnOk, Some, refl, sym, ap, subst}
use Rattle.flat_base.specs.declared.ids.Actor.{Actor}
use Rattle.flat_scene.specs.declared.script.LineBody.{LineBody}
use Rattle.flat_scene.specs.declared.script.LineBody.TheVariants as body
use Rattle.flat_scene.specs.declared.script.DisplayLine.{DisplayLine}
use Rattle.flat_scene.specs.declared.script.ScriptLine.{ScriptLine}
use Rattle.flat_playable.specs.Playable.{is_played}
use Rattle.flat_play.specs.Playing.{display_text}
use Rattle.flat_play.specs.Runs.{PlaysLine}
use Rattle.flat_play.specs.Touching.{GoesOnAt}
use Rattle.flat_play.proofs.lemmas.PlaySteps.{no_session_text, no_display_text, IsAsked, is_asked, probe_more}
use Rattle.flat_play.proofs.lemmas.Steps.{At, at_place, one_line}
use Rattle.flat_play.proofs.play.Play.play_line.Goals as goal

pub unreachable-requires : goal.unreachable-requires
unreachable-requires g c =
    let x = c.at-line.result.now in
    let at : At c.args.script.now c.args.place x = at_place c.args.script.now c.args.place x c.requires.playable c.at-line.ensures in
    let P : Actor → Type 0 = λ who. is_played c.args.script.now.setup who x.body ≡ true in
    no_session_text c.args.script.now.setup c.in-Session.s x.body (subst P c.in-Session.is at.played) (sym c.in-None.ensures)

pub unreachable-requires-in-None-display_text : goal.unreachable-requires-in-None-display_text
unreachable-requires-in-None-display_text g c =
    let x = c.at-line.result.now in
    let at : At c.args.script.now c.args.place x = at_place c.args.script.now c.args.place x c.requires.playable c.at-line.ensures in
    let P : Actor → Type 0 = λ who. is_played c.args.script.now.setup who x.body ≡ true in
    no_display_text c.args.script.now.setup x.body (subst P c.in-Display.is at.played) (sym c.in-None-display_text.ensures)

-- the line of the display that a body is, read back
is_display : (all : LineBody) (text : DisplayLine) → display_text all ≡ Some text → all ≡ body.Display text
is_display (body.Display own) text is = cc
is_display _ text is = cc

pub play_display-requires-clause-line : goal.play_display-requires-clause-line
play_display-requires-clause-line g c = λ next is. (
    let same = one_line _ next _ c.at-line.ensures is in (
      ap (λ (l : ScriptLine). l.actor) (sym same) ∙ c.in-Display.is,
      ap (λ (l : ScriptLine). l.body) (sym same) ∙ is_display _ _ (sym c.in-Some-display_text.ensures),
    )
    )

pub returns-in-Some-clause-plays : goal.returns-in-Some-clause-plays
returns-in-Some-clause-plays g c = λ next is. (
    let P : ScriptLine → Type 0 = λ l. OnOk c.play_session.result (PlaysLine c.args.script.now c.args.place l.number c.args.self.now c.play_session.new.self) in
    subst P (one_line _ next _ c.at-line.ensures is) c.play_session.ensures.plays
    )

pub returns-in-Some-display_text-clause-plays : goal.returns-in-Some-display_text-clause-plays
returns-in-Some-display_text-clause-plays g c = c.play_display.ensures.plays

pub returns-in-Probe-clause-plays : goal.returns-in-Probe-clause-plays
returns-in-Probe-clause-plays g c = λ next is. (
    let script = c.args.script.now in
    let x = c.at-line.result.now in
    let self = c.args.self.now in
    let at : At script c.args.place x = at_place script c.args.place x c.requires.playable c.at-line.ensures in
    let P : Actor → Type 0 = λ who. is_played script.setup who x.body ≡ true in
    let line : IsAsked script.setup c.in-Probe.field-0 x.body = is_asked script.setup c.in-Probe.field-0 x.body (subst P c.in-Probe.is at.played) in
    record {
      stands = probe_more script c.args.place x at self c.in-Probe.field-0 line.asked c.in-Probe.is line.is c.requires.stands;
      goes_on = GoesOnAt.stays refl;
      keeping = refl;
    })
