use Rattle.std.proofs.Common.{◌≡◌, ℕ, suc, sym, ap, ◌∙◌, subst, arith}
use Rattle.flat_core.specs.Machines.{Machine}
use Rattle.flat_rules.specs.Legal.{frames}
use Rattle.flat_judge.specs.Heeding.{Heeds}
use Rattle.flat_judge.proofs.HeedingSteps.{heed-all, heed-more}
use Rattle.flat_judge.proofs.RunSteps.{behind_more}
use Rattle.flat_judge.proofs.guided_run.GuidedRun.answer_probes.Goals as goal

pub loop-probe-preserved : goal.loop-probe-preserved
loop-probe-preserved c = (
  c.in_ok-answer_probe.ensures.stands,
  λ last. behind_more c.args.script.now c.loop-probe.probe c.args.is_last c.loop-probe.self.places c.answer_probe.new.self.places last
      c.in_ok-answer_probe.ensures.go (c.loop-probe.invariant.1 last),
  c.answer_probe.ensures.place ∙ c.loop-probe.invariant.2,
  c.answer_probe.ensures.seats ∙ c.loop-probe.invariant.3,
  c.in_ok-answer_probe.ensures.board ∙ c.loop-probe.invariant.4,
  λ last end heeds.
      (let script = c.args.script.now in
      let hints = c.args.guide.now.seen.items in
      let same : frames c.loop-probe.self.screen.board.history ≡ frames c.args.self.now.screen.board.history =
      ap (λ (m : Machine). frames m.history) c.loop-probe.invariant.4 in
      let G : ℕ → Type 0 = λ f. Heeds script hints last f c.loop-probe.probe c.loop-probe.self.answers.items
      → Heeds script hints last (suc f) c.loop-probe.probe c.answer_probe.new.self.answers.items in
      heed-more script hints last (frames c.args.self.now.screen.board.history) c.loop-probe.probe c.loop-probe.self.answers.items
      c.answer_probe.new.self.answers.items c.in_ok-answer_probe.ensures.others
      (subst G same (c.in_ok-answer_probe.ensures.heeds last (λ is. end is ∙ sym same))) (c.loop-probe.invariant.5 last end heeds)),
)

pub returns-clause-behind : goal.returns-clause-behind
returns-clause-behind c = λ last n place below got.
    c.loop-probe.invariant.1 last n place (omega (arith, below, c.loop-probe-test.false, c.len-probe-end.ensures, c.requires.stands.probes.as_many)) got

pub returns-clause-heeds : goal.returns-clause-heeds
returns-clause-heeds c = λ last end heeds.
    let count = c.loop-probe.invariant.0.probes.count in
    let as_many = c.requires.stands.probes.as_many in
    heed-all c.args.script.now c.args.guide.now.seen.items last (frames c.args.self.now.screen.board.history) c.loop-probe.probe c.loop-probe.self.answers.items
    (omega (arith, count, as_many, c.loop-probe-test.false, c.len-probe-end.ensures)) (c.loop-probe.invariant.5 last end heeds)
