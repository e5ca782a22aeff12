use Rattle.std.proofs.Common.{◌≡◌, ◌++◌, ◌∙◌, [], arith, ap, refl}
use Rattle.flat_display.proofs.Showing.{nothing_lost, none_shown, all_shown, next_shown}
use Rattle.flat_display.proofs.set.DisplaySet.show.Goals as goal

-- src/set.rt:58:9
pub loop-place-init : goal.loop-place-init
loop-place-init g c = ([], nothing_lost _, none_shown _ _ _ _ _, refl)

-- src/set.rt:58:9
pub loop-place-preserved : goal.loop-place-preserved
loop-place-preserved g c =
    let so_far = c.loop-place.invariant in
    let many : c.self.inside.displays ≡ c.args.self.now.displays = ap (λ v. v.displays) c.self.view_is in
    let step = c.show_to.ensures.shows in
    let next = next_shown _ _ _ _ _ _ so_far.0 step.2 c.loop-place.place _ _ _ step.0 step.1 (omega (arith, c.loop-place-test.true, many, c.requires)) so_far.1
    so_far.2 step.3 step.4 step.5 step.6 in
    (so_far.0 ++ step.2, next.0, next.1, c.show_to.ensures.kinds ∙ so_far.3)

-- src/set.rt:54:5
pub returns-clause-same : goal.returns-clause-same
returns-clause-same g c = ap (λ v. v.displays) c.loop-place.invariant.1

-- src/set.rt:54:5
pub returns-clause-length : goal.returns-clause-length
returns-clause-length g c = c.loop-place.invariant.2.same_length

-- src/set.rt:54:5
pub returns-clause-shows : goal.returns-clause-shows
returns-clause-shows g c =
    let so_far = c.loop-place.invariant in
    let many : c.self.inside.displays ≡ c.args.self.now.displays = ap (λ v. v.displays) c.self.view_is in
    (so_far.0, so_far.1, all_shown _ _ _ _ _ _ _ _ (omega (arith, c.loop-place-test.false, many, c.requires)) so_far.2)

pub returns-clause-kinds : goal.returns-clause-kinds
returns-clause-kinds g c = c.loop-place.invariant.3
