use Rattle.std.proofs.Common.{rules, ◌≡◌, ◌+◌, inr, suc, true, false, List, sym, ap, ◌∙◌, subst, true≢false}
use Rattle.flat_core.specs.Machines.{Machine}
use Rattle.flat_judge.specs.declared.guided_run.GuidedRun.{GuidedRun}
use Rattle.flat_scene.specs.History.{◌▹◌}
use Rattle.flat_rules.specs.Legal.{frames}
use Rattle.flat_report.specs.declared.probes.ProbeAnswer.{ProbeAnswer}
use Rattle.flat_judge.specs.Following.{IsAlong}
use Rattle.flat_judge.specs.Heeding.{AllHeed}
use Rattle.flat_judge.proofs.HeedingSteps.{turn-heeds, turn-none, turn-parted}
use Rattle.flat_judge.proofs.Turning.{tells-from, turn-goes, turn-parts, turn-stops}
use Rattle.flat_judge.proofs.following.FollowedRun.turn.Goals as goal

pub returns-then-not-branch-clause-goes : goal.returns-then-not-branch-clause-goes
returns-then-not-branch-clause-goes c =
    let none : c.in_ok-next_entry.field-0 ≡ false = search rules in
    turn-stops c.args.script.now c.args.text.now c.args.self.now c.next_entry.new.self c.in_ok-next_entry.field-0 none c.requires.along
    c.in_ok-next_entry.ensures.makes c.next_entry.ensures.along

pub returns-then-not-branch-2-clause-goes : goal.returns-then-not-branch-2-clause-goes
returns-then-not-branch-2-clause-goes c =
    let yes : c.in_ok-next_entry.field-0 ≡ true = search rules in
    let none : c.in_ok-tell.field-0 ≡ false = search rules in
    turn-parts c.args.script.now c.args.text.now c.args.self.now c.tell.new.self c.in_ok-next_entry.field-0 c.in_ok-tell.field-0 yes none
    c.next_entry.new.self.run.screen.board.history c.in_ok-next_entry.ensures.makes
    (tells-from c.args.script.now c.args.text.now c.args.self.now c.tell.new.self c.next_entry.new.self.along c.next_entry.new.self.run.screen.board.history
    c.in_ok-tell.field-0 c.next_entry.ensures.along c.in_ok-tell.ensures.tells)
    (ap (λ (r : GuidedRun). r.screen.board.history) c.in_ok-tell.ensures.run)

pub returns-clause-goes : goal.returns-clause-goes
returns-clause-goes c =
    let yes : c.in_ok-next_entry.field-0 ≡ true = search rules in
    let too : c.in_ok-tell.field-0 ≡ true = search rules in
    turn-goes c.args.script.now c.args.text.now c.args.self.now _ c.in_ok-next_entry.field-0 c.in_ok-tell.field-0 yes too
    c.next_entry.new.self.run.screen.board.history c.in_ok-next_entry.ensures.makes
    (tells-from c.args.script.now c.args.text.now c.args.self.now (record { run = c.answer_probes.new.self; along = c.tell.new.self.along })
    c.next_entry.new.self.along c.next_entry.new.self.run.screen.board.history c.in_ok-tell.field-0 c.next_entry.ensures.along c.in_ok-tell.ensures.tells)
    (ap (λ (m : Machine). m.history) c.in_ok-answer_probes.ensures.board ∙ ap (λ (r : GuidedRun). r.screen.board.history) c.in_ok-tell.ensures.run)

pub returns-then-not-branch-clause-heeds : goal.returns-then-not-branch-clause-heeds
returns-then-not-branch-clause-heeds c = λ last heeds.
    let none : c.in_ok-next_entry.field-0 ≡ false = search rules in
    turn-none c.args.script.now c.args.text.now c.args.guide.now.seen.items last c.args.self.now.run c.next_entry.new.self.run c.args.self.now.along
    c.in_ok-next_entry.field-0 none c.in_ok-next_entry.ensures.makes
    (λ i. (c.in_ok-next_entry.ensures.answers i).items) heeds

pub returns-then-not-branch-2-clause-heeds : goal.returns-then-not-branch-2-clause-heeds
returns-then-not-branch-2-clause-heeds c = λ last heeds.
    let script = c.args.script.now in
    let text = c.args.text.now in
    let yes_it : c.in_ok-next_entry.field-0 ≡ true = search rules in
    let none : c.in_ok-tell.field-0 ≡ false = search rules in
    turn-parted script text c.args.guide.now.seen.items last c.args.self.now.run.screen.board.history c.next_entry.new.self.run.screen.board.history
    c.args.self.now.along c.tell.new.self.along c.in_ok-next_entry.field-0 c.in_ok-tell.field-0 c.tell.new.self.run
    (λ before entry. IsAlong script text (before ▹ entry)) (c.args.self.now.along.at + 1) yes_it none c.in_ok-next_entry.ensures.makes
    (tells-from script text c.args.self.now c.tell.new.self c.next_entry.new.self.along c.next_entry.new.self.run.screen.board.history c.in_ok-tell.field-0
    c.next_entry.ensures.along c.in_ok-tell.ensures.tells)

pub returns-clause-heeds : goal.returns-clause-heeds
returns-clause-heeds c = λ last heeds.
    let script = c.args.script.now in
    let text = c.args.text.now in
    let hints = c.args.guide.now.seen.items in
    let yes_it : c.in_ok-next_entry.field-0 ≡ true = search rules in
    let A : List (List ProbeAnswer) → Type 0 = AllHeed script hints last (suc (frames c.args.self.now.run.screen.board.history)) in
    let R : GuidedRun → Type 0 = λ r. AllHeed script hints last (frames r.screen.board.history) r.answers.items in
    let B : Machine → Type 0 = λ m. AllHeed script hints last (suc (frames m.history)) c.answer_probes.new.self.answers.items in
    let made = turn-heeds script text hints last c.args.self.now.run.screen.board.history c.next_entry.new.self.run.screen.board.history c.args.self.now.along
    c.in_ok-next_entry.field-0 c.next_entry.new.self.run.answers.items yes_it c.in_ok-next_entry.ensures.makes
    (subst A (sym (λ i. (c.in_ok-next_entry.ensures.answers i).items)) heeds) in
    inr (subst B (sym c.in_ok-answer_probes.ensures.board)
    (c.in_ok-answer_probes.ensures.heeds last (λ wrong. absurd (true≢false (sym wrong))) (subst R (sym c.in_ok-tell.ensures.run) made)))
