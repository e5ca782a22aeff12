use Rattle.std.proofs.Common.{◌-◌, Some, length, take, drop, refl, sym, ap, ◌∙◌, subst}
use Rattle.flat_base.specs.declared.ids.Actor.{Actor}
use Rattle.flat_judge.specs.Following.{next_actor}
use Rattle.flat_judge.proofs.NextEntries.{nobody-makes}
use Rattle.flat_judge.proofs.NextWords.{IsOfSession, next-acts, next-declared}
use Rattle.flat_judge.proofs.Pass.{rest-all}
use Rattle.flat_judge.proofs.following.FollowedRun.next_entry.Goals as goal

pub session_entry-requires-clause-declared : goal.session_entry-requires-clause-declared
session_entry-requires-clause-declared c = next-declared c.args.script.now
    (take (length c.args.text.now - c.args.self.now.along.at) (drop c.args.self.now.along.at c.args.text.now)) c.in-Some-Session.s
    (sym c.next_actor.ensures ∙ c.in-Some-Session.is ∙ ap Some c.in-Some-Session.field-0-is)

pub session_entry-requires-clause-turn : goal.session_entry-requires-clause-turn
session_entry-requires-clause-turn c =
    ap (next_actor c.args.script.now) (sym (rest-all c.args.text.now c.args.self.now.along.at)) ∙ sym c.next_actor.ensures ∙ c.in-Some-Session.is
    ∙ ap Some c.in-Some-Session.field-0-is

pub returns-in-Some-Probe-clause-makes : goal.returns-in-Some-Probe-clause-makes
returns-in-Some-Probe-clause-makes c =
    let script = c.args.script.now in
    let rest = take (length c.args.text.now - c.args.self.now.along.at) (drop c.args.self.now.along.at c.args.text.now) in
    let I : Actor → Type 0 = IsOfSession script in
    absurd (subst I c.in-Some-Probe.field-0-is (next-acts script rest c.in-Some-Probe.field-0 (sym c.next_actor.ensures ∙ c.in-Some-Probe.is)))

pub returns-in-None-clause-makes : goal.returns-in-None-clause-makes
returns-in-None-clause-makes c =
    let board = c.args.self.now.run.screen.board in
    nobody-makes c.args.script.now c.args.text.now board board c.args.self.now.along c.requires.along refl
    (ap (next_actor c.args.script.now) (sym (rest-all c.args.text.now c.args.self.now.along.at)) ∙ sym c.next_actor.ensures ∙ c.in-None.is)
