use Rattle.std.proofs.Common.{◌≡◌, ℕ, ◌<◌, List, length, slice_get, slice_set, Some, sym, ap, ◌∙◌, arith, add-one}
use Rattle.flat_scene.specs.Setups.{at_ratio}
use Rattle.flat_topology.specs.Hits.{hit_list}
use Rattle.flat_report.specs.declared.probes.ProbeAnswer.{ProbeAnswer}
use Rattle.flat_race.specs.Settling.{settled}
use Rattle.flat_race.proofs.Settled.{first-mapped, next-is, next-mapped, some-at}
use Rattle.std.proofs.lemmas.Result.{IfOk-from_err}
use Rattle.flat_race.proofs.settling.settle.Goals as goal

pub settle_at-requires-clause-is : goal.settle_at-requires-clause-is
settle_at-requires-clause-is c = c.loop-place.invariant.stays.is

pub loop-place-preserved : goal.loop-place-preserved
loop-place-preserved c =
    let xs : List ProbeAnswer = c.args.answers.now in
    let n : ℕ = c.loop-place.place in
    let setup = c.args.setup.now in
    let was = c.loop-place.invariant in
    let f : ProbeAnswer → ProbeAnswer = settled c.args.last.now.frame.0 (hit_list (at_ratio c.args.last.now.ratio setup) c.args.last.now.reuse) in
    let g : ProbeAnswer → ProbeAnswer = settled c.loop-place.last.frame.0 (hit_list (at_ratio c.loop-place.last.ratio setup) c.loop-place.last.reuse) in
    let same : g ≡ f = λ i. settled (was.stays.frame i).0 (hit_list (at_ratio (was.stays.ratio i) setup) (was.stays.reuse i)) in
    let within : n < length xs = omega (arith, c.loop-place-test.true, c.len-place-end.ensures) in
    let here = some-at n xs within in
    let at : slice_get c.loop-place.answers n ≡ Some here.0 = ap (λ (ys : List ProbeAnswer). slice_get ys n) was.answers ∙ next-is f n xs within ∙ here.1 in
    let now = c.in_ok-settle_at.ensures in
    record {
      answers = now.answers here.0 at ∙ (λ i. slice_set (was.answers i) n (same i here.0)) ∙ next-mapped f n xs here.0 here.1
          ∙ ap (λ (k : ℕ). first-mapped f k xs) (sym (add-one n));
      stays = record {
        frame = now.stays.frame ∙ was.stays.frame;
        ratio = now.stays.ratio ∙ was.stays.ratio;
        reuse = now.stays.reuse ∙ was.stays.reuse;
        is = now.stays.is;
      };
    }

pub settle_at-requires-clause-setup : goal.settle_at-requires-clause-setup
settle_at-requires-clause-setup c = c.requires.setup

pub returns-in_err-settle_at-clause-answers : goal.returns-in_err-settle_at-clause-answers
returns-in_err-settle_at-clause-answers c = IfOk-from_err _ _ c.from_residual.ensures.0

pub returns-in_err-settle_at-clause-stays : goal.returns-in_err-settle_at-clause-stays
returns-in_err-settle_at-clause-stays c = IfOk-from_err _ _ c.from_residual.ensures.0
