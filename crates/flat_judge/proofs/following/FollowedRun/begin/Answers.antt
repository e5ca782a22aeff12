use Rattle.std.proofs.Common.{◌≡◌, ℕ, inr, suc, List, [], None, Some, sym, ap, ◌∙◌, subst, true≢false}
use Rattle.flat_rules.specs.Legal.{frames}
use Rattle.flat_core.specs.Machines.{Machine}
use Rattle.flat_scene.specs.declared.journal.Entry.{Entry}
use Rattle.flat_judge.specs.Following.{HasStopped, IsAlong, Passes}
use Rattle.flat_judge.specs.Heeding.{AllHeed}
use Rattle.flat_judge.proofs.Beginning.{first-along, first-parts}
use Rattle.flat_judge.proofs.HeedingSteps.{heeds-first}
use Rattle.flat_judge.proofs.Looking.{on-ok}
use Rattle.flat_judge.proofs.following.FollowedRun.begin.Goals as goal

pub follow-requires-clause-along : goal.follow-requires-clause-along
follow-requires-clause-along c =
    let script = c.args.script.now in
    let text = c.args.text.now in
    let none : c.answer_probes.new.self.screen.board.history ≡ [] = ap (λ (m : Machine). m.history) c.in_ok-answer_probes.ensures.board ∙ c.requires.no_entry in
    let P : List ℕ → Type 0 = λ b. Passes text 0 b (Some c.in-Some.at) in
    let A : List Entry → Type 0 = λ h. IsAlong script text h (record c.args.self.now.along { at = c.in-Some.at }) in
    subst A (sym none) (first-along script text c.args.self.now.along c.requires.no_loss c.in-Some.at c.requires.no_event
    (subst P (c.as_slice.ensures.value ∙ c.in_ok-title.ensures) c.in-Some.ensures))

pub returns-clause-stops : goal.returns-clause-stops
returns-clause-stops c =
    let script = c.args.script.now in
    let text = c.args.text.now in
    let none : c.answer_probes.new.self.screen.board.history ≡ [] = ap (λ (m : Machine). m.history) c.in_ok-answer_probes.ensures.board ∙ c.requires.no_entry in
    let P : List ℕ → Type 0 = λ b. Passes text 0 b None in
    let H : List Entry → Type 0 = λ h. HasStopped script text h c.args.self.now.along in
    subst H (sym none) (first-parts script text c.args.self.now.along c.requires.no_loss
    (subst P (c.as_slice.ensures.value ∙ c.in_ok-title.ensures) c.in-None.ensures))

pub returns-clause-heeds : goal.returns-clause-heeds
returns-clause-heeds c = λ last.
    let script = c.args.script.now in
    let hints = c.args.guide.now.seen.items in
    let F : List Entry → Type 0 = λ h. AllHeed script hints last (frames h) c.args.self.now.run.answers.items in
    let B : Machine → Type 0 = λ m. AllHeed script hints last (suc (frames m.history)) c.answer_probes.new.self.answers.items in
    let first = subst F (sym c.requires.no_entry) (heeds-first script hints last script.setup.probes c.args.self.now.run.answers.items c.requires.no_answer) in
    let heeds = subst B (sym c.in_ok-answer_probes.ensures.board) (c.in_ok-answer_probes.ensures.heeds last (λ wrong. absurd (true≢false (sym wrong))) first) in
    inr heeds

pub returns-in-Some-clause-heeds : goal.returns-in-Some-clause-heeds
returns-in-Some-clause-heeds c =
    let script = c.args.script.now in
    let hints = c.args.guide.now.seen.items in
    let heeds : (last : ℕ) → AllHeed script hints last (suc (frames c.answer_probes.new.self.screen.board.history)) c.answer_probes.new.self.answers.items =
    λ last.
    (let F : List Entry → Type 0 = λ h. AllHeed script hints last (frames h) c.args.self.now.run.answers.items in
    let B : Machine → Type 0 = λ m. AllHeed script hints last (suc (frames m.history)) c.answer_probes.new.self.answers.items in
    let first = subst F (sym c.requires.no_entry) (heeds-first script hints last script.setup.probes c.args.self.now.run.answers.items c.requires.no_answer) in
    subst B (sym c.in_ok-answer_probes.ensures.board) (c.in_ok-answer_probes.ensures.heeds last (λ wrong. absurd (true≢false (sym wrong))) first)) in
    on-ok c.follow.result (λ goes. λ last. goes last (heeds last)) c.follow.ensures.heeds
