use Rattle.std.proofs.Common.{rules, ◌≡◌, ◌-◌, true, false, get_or, sym, ap, ◌∙◌}
use Rattle.flat_judge.specs.declared.session_cursor.SessionCursor.{SessionCursor}
use Rattle.flat_judge.proofs.NextEntries.{ended-makes, seat-within, session-enters}
use Rattle.flat_judge.proofs.RunSteps.{seat_found}
use Rattle.flat_judge.proofs.following.FollowedRun.session_entry.Goals as goal

pub returns-then-index-clause-makes : goal.returns-then-index-clause-makes
returns-then-index-clause-makes c =
    let guided = c.args.self.now.run in
    let k = c.args.s.0 - 1 in
    let seat : SessionCursor = c.index.result.now in
    let found : seat ≡ get_or guided.seats.items k seat = search rules in
    let ended : seat.has_ended ≡ true = search rules in
    ended-makes c.args.script.now c.args.text.now guided c.args.self.now.along c.requires.along c.args.s c.requires.stands c.requires.declared c.requires.turn
    seat found ended

pub session_turn-requires-clause-open : goal.session_turn-requires-clause-open
session_turn-requires-clause-open c = λ seat at.
    let guided = c.args.self.now.run in
    let k = c.args.s.0 - 1 in
    let first : SessionCursor = c.index.result.now in
    let found : first ≡ get_or guided.seats.items k first = search rules in
    let goes_on : first.has_ended ≡ false = search rules in
    sym (ap (λ (p : SessionCursor). p.has_ended) (seat_found guided.seats.items k first seat
    (seat-within c.args.script.now guided c.args.s c.requires.stands c.requires.declared) found at)) ∙ goes_on

pub returns-clause-makes : goal.returns-clause-makes
returns-clause-makes c =
    session-enters c.args.script.now c.args.text.now c.args.self.now.run c.session_turn.new.self c.args.self.now.along c.requires.along c.requires.playable
    c.args.s c.requires.declared c.requires.turn c.in_ok-session_turn.ensures.goes c.in_ok-session_turn.ensures.stands c.journal-journal.ensures.legal
