use Rattle.std.proofs.Common.{◌≡◌, true, refl, sym, ap, ◌∙◌, subst, arith}
use Rattle.std.specs.Option.{option_copied}
use Rattle.flat_base.specs.declared.ids.Actor.TheVariants.{Session}
use Rattle.flat_base.specs.declared.ids.SessionNo.{SessionNo}
use Rattle.flat_scene.specs.declared.script.LineBody.TheVariants as body
use Rattle.flat_scene.specs.declared.script.ScriptLine.{ScriptLine}
use Rattle.flat_core.specs.Machines.{HasShare}
use Rattle.flat_rules.specs.Owned.{is_played_line}
use Rattle.flat_play.proofs.lemmas.Places.{here}
use Rattle.flat_play.proofs.lemmas.Readers.{reader_owns}
use Rattle.flat_play.proofs.lemmas.Starting.{few}
use Rattle.flat_play.proofs.lemmas.Steps.{at_place}
use Rattle.flat_judge.specs.GuidedRuns.{Goes}
use Rattle.flat_judge.proofs.Seats.{IsOwn, goes_by, number_low, other_is, own_at, own_is, passed, read_grows, read_on, share}
use Rattle.flat_judge.proofs.session_cursor.SessionCursor.step.Goals as goal

pub hear-requires-clause-owned : goal.hear-requires-clause-owned
hear-requires-clause-owned c =
    let script = c.args.script.now in
    let seat = c.args.self.now in
    let x : ScriptLine = c.at-line.result.now in
    let own : IsOwn c.args.s x.actor x.body c.in-Some.text.now =
    own_is c.args.s x.actor x.body c.in-Some.text.now (sym c.own_text.ensures ∙ ap option_copied c.in-Some.is) in
    let h = here script c.args.s seat.place x.number c.in-Some.text.now c.requires.playable
    (own_at script seat.place x c.args.s c.in-Some.text.now c.at-line.ensures own) in
    reader_owns script c.args.s c.args.board.now seat.reader c.requires.setup c.requires.sits.stands.session
    (λ setup s. is_played_line setup s c.in-Some.text.now ≡ true) h.played

pub hear-requires-clause-share : goal.hear-requires-clause-share
hear-requires-clause-share c =
    let script = c.args.script.now in
    let seat = c.args.self.now in
    let x : ScriptLine = c.at-line.result.now in
    let own : IsOwn c.args.s x.actor x.body c.in-Some.text.now =
    own_is c.args.s x.actor x.body c.in-Some.text.now (sym c.own_text.ensures ∙ ap option_copied c.in-Some.is) in
    let h = here script c.args.s seat.place x.number c.in-Some.text.now c.requires.playable
    (own_at script seat.place x c.args.s c.in-Some.text.now c.at-line.ensures own) in
    let S : SessionNo → Type 0 = λ s. HasShare c.args.board.now (Session s) in
    subst S (sym c.requires.sits.stands.session) (share script c.args.s c.args.board.now seat c.requires.shares h.declared c.requires.sits)

pub hear-requires-clause-few : goal.hear-requires-clause-few
hear-requires-clause-few c =
    let script = c.args.script.now in
    let seat = c.args.self.now in
    let x : ScriptLine = c.at-line.result.now in
    let at = at_place script seat.place x c.requires.playable c.at-line.ensures in
    omega (arith, at.above, c.requires.sits.stands.few, number_low script seat.place x c.requires.playable at)

pub overflow_add-self : goal.overflow_add-self
overflow_add-self c = omega (arith, few c.args.script.now c.requires.playable, c.requires.within)

pub overflow_add-self-in-None : goal.overflow_add-self-in-None
overflow_add-self-in-None c = omega (arith, few c.args.script.now c.requires.playable, c.requires.within)

pub returns-in_ok-made-in-Some-clause-sits : goal.returns-in_ok-made-in-Some-clause-sits
returns-in_ok-made-in-Some-clause-sits c =
    let script = c.args.script.now in
    let seat = c.args.self.now in
    let x : ScriptLine = c.at-line.result.now in
    let text = c.in-Some.text.now in
    let own : IsOwn c.args.s x.actor x.body text = own_is c.args.s x.actor x.body text (sym c.own_text.ensures ∙ ap option_copied c.in-Some.is) in
    let there = own_at script seat.place x c.args.s text c.at-line.ensures own in
    let line : ScriptLine = record { number = x.number; actor = Session c.args.s; body = body.Session text } in
    let h = here script c.args.s seat.place x.number text c.requires.playable there in
    let reads = c.in_ok-made-in-Some.ensures.reads in
    read_on script c.args.s x.number text reads.0 c.args.board.now c.hear.new.board seat c.hear.new.reader c.requires.setup h c.requires.sits reads.1
    c.lines_are_read.ensures.more c.in_ok-made-in-Some.ensures.stands
    (at_place script seat.place line c.requires.playable there) c.requires.within _ refl refl

pub returns-in_ok-made-in-Some-clause-goes : goal.returns-in_ok-made-in-Some-clause-goes
returns-in_ok-made-in-Some-clause-goes c =
    let script = c.args.script.now in
    let seat = c.args.self.now in
    let x : ScriptLine = c.at-line.result.now in
    let text = c.in-Some.text.now in
    let own : IsOwn c.args.s x.actor x.body text = own_is c.args.s x.actor x.body text (sym c.own_text.ensures ∙ ap option_copied c.in-Some.is) in
    let h = here script c.args.s seat.place x.number text c.requires.playable (own_at script seat.place x c.args.s text c.at-line.ensures own) in
    let reads = c.in_ok-made-in-Some.ensures.reads in
    goes_by c.args.s x.number c.args.board.now c.hear.new.board c.in_ok-made-in-Some.made c.in_ok-made-in-Some.ensures.made
    (read_grows script c.args.s x.number text reads.0 c.args.board.now c.hear.new.board seat c.hear.new.reader c.requires.setup h c.requires.sits reads.1)

pub returns-in-None-clause-sits : goal.returns-in-None-clause-sits
returns-in-None-clause-sits c =
    let script = c.args.script.now in
    let seat = c.args.self.now in
    let x : ScriptLine = c.at-line.result.now in
    let at = at_place script seat.place x c.requires.playable c.at-line.ensures in
    let other = other_is script.setup c.args.s x.actor x.body (sym c.own_text.ensures ∙ ap option_copied c.in-None.is) at.played in
    passed script c.args.s c.args.board.now.history seat _ x at other c.requires.within refl c.requires.sits

pub returns-in-None-clause-goes : goal.returns-in-None-clause-goes
returns-in-None-clause-goes c = Goes.stays refl
