use Rattle.std.proofs.Common.{◌≡◌, ◌∙◌, Some, sym, subst}
use Rattle.flat_scene.specs.Journals.{history_of}
use Rattle.flat_report.specs.Report.{finished}
use Rattle.flat_play.specs.Beginning.{AreBegun}
use Rattle.flat_play.proofs.lemmas.Places.{setup_is}
use Rattle.flat_play.proofs.lemmas.Starting.{few_sessions}
use Rattle.flat_race.specs.declared.running.StoppedRace.{StoppedRace}
use Rattle.flat_race.proofs.Closing.{IsClosed, all_home, has_begun}
use Rattle.flat_race.proofs.race.close_stopped.Goals as goal

pub close-requires-clause-compositor : goal.close-requires-clause-compositor
close-requires-clause-compositor c = (c.requires.rest c.in-Some.field-0 c.in-Some.is).directed.own

pub close-requires-clause-sessions : goal.close-requires-clause-sessions
close-requires-clause-sessions c = (c.requires.rest c.in-Some.field-0 c.in-Some.is).own

pub close-requires-clause-home : goal.close-requires-clause-home
close-requires-clause-home c =
    let rest = c.requires.rest c.in-Some.field-0 c.in-Some.is in
    all_home c.args.script.now c.args.stage rest.are_whole c.in-Some.field-0.seats.seats rest.back

pub returns : goal.returns
returns c = λ one is. (
    let script = c.args.script.now in
    let stopped = c.in-Some.field-0 in
    let made = c.close.ensures in
    let rest = c.requires.rest stopped c.in-Some.is in
    let closed : IsClosed stopped.compositor.display stopped.seats c.close.result =
    record { display = made.compositor; sessions = made.sessions; legal = made.legal } in
    let both : Some stopped ≡ Some one = sym c.in-Some.is ∙ is in
    let same : stopped ≡ one = cc in
    let B : StoppedRace → Type 0 = λ s. AreBegun script (finished script.setup (history_of s.compositor.display.seen)) in
    subst B same
    (has_begun script c.args.stage rest.place stopped.compositor.display rest.directed stopped.seats rest.are_whole rest.back c.close.result closed
    (made.fixed.0 ∙ c.requires.of.setup) (few_sessions script.setup (setup_is script c.requires.playable))
    c.seats_tell_actors.ensures c.journals_keep_seats.ensures.seats)
    )
