use Rattle.std.proofs.Common.{rules, ◌≡◌, ℕ, suc, Bool, true, false, cond, ◌≤◌, length, ap, sym, ◌∙◌, subst, Some, arith}
use Rattle.flat_core.specs.Machines.{Machine}
use Rattle.flat_rules.specs.Legal.{frames}
use Rattle.flat_judge.specs.Heeding.{Heeds}
use Rattle.flat_judge.proofs.HeedingSteps.{heeds-whole, step-heeds, whole-answers}
use Rattle.flat_judge.proofs.RunSteps.{has_answers, place_within}
use Rattle.flat_judge.proofs.guided_run.GuidedRun.answer_probe.Goals as goal

pub returns-clause-go : goal.returns-clause-go
returns-clause-go c =
    let stands = c.loop.invariant.0 in
    let lines : ℕ = length c.args.script.now.lines in
    let there = c.loop.invariant.1 in
    let many : length c.loop.self.places ≡ length c.args.self.now.places = stands.probes.as_many ∙ sym c.requires.stands.probes.as_many in
    let within : c.loop.counter ≤ lines = place_within c.args.script.now c.loop.self c.args.probe c.loop.counter stands (omega (arith, many, c.requires.probe))
    there in
    let at_end : c.loop.counter ≡ lines = omega (arith, within, c.loop-test.false, c.loop.auto.counter-end, c.len-end.ensures) in
    record {
      last = λ last. there ∙ ap Some at_end;
      others = c.loop.invariant.2;
    }

pub loop-preserved : goal.loop-preserved
loop-preserved c =
    let script = c.args.script.now in
    let hints = c.args.guide.now.seen.items in
    let probe = c.args.probe in
    let guided = c.loop.self in
    let same : frames guided.screen.board.history ≡ frames c.args.self.now.screen.board.history = ap (λ (m : Machine). frames m.history) c.loop.invariant.5 in
    let many : length guided.places ≡ length c.args.self.now.places = c.loop.invariant.0.probes.as_many ∙ sym c.requires.stands.probes.as_many in
    let below = has_answers script guided probe c.loop.invariant.0 (omega (arith, many, c.requires.probe)) in
    let heeds_so = step-heeds script hints guided c.probe_step.new.self.answers.items (frames c.args.self.now.screen.board.history) probe c.args.is_last
    c.is_due-is_due.result c.in_ok-probe_step.field-0 c.loop.invariant.0 below same c.is_due-is_due.ensures.heeds c.in_ok-probe_step.ensures.heeds in
    let on : c.in_ok-probe_step.field-0 ≡ true = search rules in
    let goes = c.in_ok-probe_step.ensures.goes in
    let H : Bool → Type 0 = λ b. (last : ℕ) → (c.args.is_last ≡ true → last ≡ frames c.args.self.now.screen.board.history)
    → Heeds script hints last (frames c.args.self.now.screen.board.history) probe guided.answers.items
    → Heeds script hints last (cond b (frames c.args.self.now.screen.board.history) (suc (frames c.args.self.now.screen.board.history))) probe
    c.probe_step.new.self.answers.items in
    let heeds_on = subst H on heeds_so in (
      c.in_ok-probe_step.ensures.stands,
      goes.next on c.loop.counter c.loop.invariant.1,
      λ n apart. goes.others n apart ∙ c.loop.invariant.2 n apart,
      c.probe_step.ensures.place ∙ c.loop.invariant.3,
      c.probe_step.ensures.seats ∙ c.loop.invariant.4,
      c.probe_step.ensures.board ∙ c.loop.invariant.5,
      λ n apart. c.in_ok-probe_step.ensures.others n apart ∙ c.loop.invariant.6 n apart,
      λ last end heeds. heeds_on last end (c.loop.invariant.7 last end heeds),
    )

pub returns-then-not-branch-clause-heeds : goal.returns-then-not-branch-clause-heeds
returns-then-not-branch-clause-heeds c =
    let script = c.args.script.now in
    let hints = c.args.guide.now.seen.items in
    let probe = c.args.probe in
    let guided = c.loop.self in
    let same : frames guided.screen.board.history ≡ frames c.args.self.now.screen.board.history = ap (λ (m : Machine). frames m.history) c.loop.invariant.5 in
    let many : length guided.places ≡ length c.args.self.now.places = c.loop.invariant.0.probes.as_many ∙ sym c.requires.stands.probes.as_many in
    let below = has_answers script guided probe c.loop.invariant.0 (omega (arith, many, c.requires.probe)) in
    let heeds_so = step-heeds script hints guided c.probe_step.new.self.answers.items (frames c.args.self.now.screen.board.history) probe c.args.is_last
    c.is_due-is_due.result c.in_ok-probe_step.field-0 c.loop.invariant.0 below same c.is_due-is_due.ensures.heeds c.in_ok-probe_step.ensures.heeds in
    let stays : c.in_ok-probe_step.field-0 ≡ false = search rules in
    let H : Bool → Type 0 = λ b. (last : ℕ) → (c.args.is_last ≡ true → last ≡ frames c.args.self.now.screen.board.history)
    → Heeds script hints last (frames c.args.self.now.screen.board.history) probe guided.answers.items
    → Heeds script hints last (cond b (frames c.args.self.now.screen.board.history) (suc (frames c.args.self.now.screen.board.history))) probe
    c.probe_step.new.self.answers.items in
    let heeds_on = subst H stays heeds_so in λ last end heeds. heeds_on last end (c.loop.invariant.7 last end heeds)

pub returns-clause-heeds : goal.returns-clause-heeds
returns-clause-heeds c = λ last end heeds.
    let script = c.args.script.now in
    let here = c.loop.invariant.1 in
    heeds-whole script c.args.guide.now.seen.items last c.args.probe (frames c.args.self.now.screen.board.history)
    (suc (frames c.args.self.now.screen.board.history)) c.loop.self.answers.items
    (whole-answers script c.loop.self c.args.probe c.loop.counter c.loop.invariant.0 here (omega (arith, c.loop-test.false, c.len-end.ensures)))
    (c.loop.invariant.7 last end heeds)
