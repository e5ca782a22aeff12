use Rattle.std.proofs.Common.{◌≡◌, ℕ, suc, List, refl, sym, ap, ◌∙◌, subst, arith}
use Rattle.flat_core.specs.Machines.{Machine}
use Rattle.flat_judge.proofs.Growth.{grown-none, grown-on}
use Rattle.flat_play.proofs.lemmas.Places.{within}
use Rattle.flat_scene.specs.declared.journal.Entry.{Entry}
use Rattle.flat_rules.specs.Legal.{frames}
use Rattle.flat_report.specs.declared.probes.ProbeAnswer.{ProbeAnswer}
use Rattle.flat_judge.specs.Heeding.{AllHeed}
use Rattle.flat_judge.proofs.HeedingSteps.{heeds-before}
use Rattle.flat_judge.proofs.guided_run.GuidedRun.end.Goals as goal

pub returns-clause-whole : goal.returns-clause-whole
returns-clause-whole c =
    let script = c.args.script.now in
    let last = c.in_ok-answer_probes.ensures in
    record {
      stands = last.stands;
      ended = rw c.answer_probes.ensures.seats c.in_ok-end_sessions.ensures.ended;
      display = c.answer_probes.ensures.place ∙ c.in_ok-end_sessions.ensures.place ∙ c.in_ok-end_display.ensures.place;
      probes = λ n place got.
          let inside = within c.answer_probes.new.self.places n place got in
          let many = last.stands.probes.as_many in
          last.behind refl n place (omega (arith, inside, many)) got;
    }

pub returns-clause-grown : goal.returns-clause-grown
returns-clause-grown c =
    grown-on _ _ _ c.in_ok-end_display.ensures.grown (grown-on _ _ _ c.in_ok-end_sessions.ensures.grown
    (grown-none _ _ (ap (λ (m : Machine). m.history) c.in_ok-answer_probes.ensures.board)))

pub returns-clause-heeds : goal.returns-clause-heeds
returns-clause-heeds c = λ same heeds.
    let script = c.args.script.now in
    let hints = c.args.guide.now.seen.items in
    let n : ℕ = frames c.args.self.now.screen.board.history in
    let before : List Entry = c.end_sessions.new.self.screen.board.history in
    let history : c.answer_probes.new.self.screen.board.history ≡ before = ap (λ (m : Machine). m.history) c.in_ok-answer_probes.ensures.board in
    let many : frames before ≡ n = ap frames (sym history ∙ sym same) in
    let A : List (List ProbeAnswer) → Type 0 = AllHeed script hints n (suc n) in
    let answers : c.end_sessions.new.self.answers.items ≡ c.args.self.now.answers.items =
    (λ i. (c.in_ok-end_sessions.ensures.answers i).items) ∙ (λ i. (c.in_ok-end_display.ensures.answers i).items) in
    let R : ℕ → Type 0 = λ k. AllHeed script hints n (suc k) c.answer_probes.new.self.answers.items in
    subst R many (c.in_ok-answer_probes.ensures.heeds n (λ last. sym many)
    (heeds-before script hints n (suc n) (frames before) c.end_sessions.new.self.answers.items (omega (arith, many)) (subst A (sym answers) heeds)))
