use Rattle.std.proofs.Common.{rules, inr, refl, ◌≡◌, true, false, arith}
use Rattle.flat_judge.proofs.HeedingSteps.{heeds-on}
use Rattle.flat_judge.proofs.Turning.{follows-false, follows-true}
use Rattle.flat_judge.proofs.following.FollowedRun.follow.Goals as goal

pub loop-init : goal.loop-init
loop-init c = (c.requires.stands, c.requires.along, omega arith, refl, λ last heeds. inr heeds)

pub returns-then-not-branch-clause-stops : goal.returns-then-not-branch-clause-stops
returns-then-not-branch-clause-stops c =
    let none : c.in_ok-turn.field-0 ≡ false = search rules in
    follows-false c.args.script.now c.args.text.now c.loop.self c.turn.new.self c.in_ok-turn.field-0 none c.in_ok-turn.ensures.goes

pub loop-preserved : goal.loop-preserved
loop-preserved c =
    let yes : c.in_ok-turn.field-0 ≡ true = search rules in
    let on = follows-true c.args.script.now c.args.text.now c.loop.self c.turn.new.self c.in_ok-turn.field-0 yes c.in_ok-turn.ensures.goes in
    let low = c.loop.invariant.2 in
    let more = on.1 in (
      c.in_ok-turn.ensures.stands,
      on.0,
      omega (arith, low, more),
      c.loop.invariant.3,
      λ last heeds. heeds-on c.args.script.now c.args.text.now c.args.guide.now.seen.items last c.loop.self.run c.turn.new.self.run
          (c.loop.invariant.4 last heeds) (c.in_ok-turn.ensures.heeds last),
    )

-- each turn passes a byte of the text at least
pub returns-clause-stops : goal.returns-clause-stops
returns-clause-stops c =
    let low = c.loop.invariant.2 in
    let within = c.loop.invariant.1.within in
    let was = c.requires.along.within in
    absurd (omega (arith, low, within, was, c.loop-test.false, c.loop.auto.counter-end, c.loop.invariant.3))

pub returns-then-not-branch-clause-heeds : goal.returns-then-not-branch-clause-heeds
returns-then-not-branch-clause-heeds c = λ last heeds. heeds-on c.args.script.now c.args.text.now c.args.guide.now.seen.items last c.loop.self.run
    c.turn.new.self.run (c.loop.invariant.4 last heeds) (c.in_ok-turn.ensures.heeds last)

pub returns-clause-heeds : goal.returns-clause-heeds
returns-clause-heeds c = λ last heeds. c.loop.invariant.4 last heeds
