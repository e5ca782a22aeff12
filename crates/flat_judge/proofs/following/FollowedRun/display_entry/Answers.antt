use Rattle.flat_judge.proofs.NextEntries.{display-makes, none-unread, run-stands}
use Rattle.flat_judge.proofs.following.FollowedRun.display_entry.Goals as goal

pub returns-clause-makes : goal.returns-clause-makes
returns-clause-makes c =
    let script = c.args.script.now in
    let old = c.args.self.now.run in
    let new = c.display_turn.new.self in
    let made = c.in_ok-made.ensures in
    display-makes script c.args.text.now old.screen.board new.screen.board c.args.self.now.along c.requires.along c.in_ok-made.made c.requires.turn made.goes
    (run-stands script c.requires.playable new made.stands c.journal-journal.ensures.legal)
    (λ none. none-unread script old new made.stands (made.last none) c.in_ok-made.made none made.goes)
