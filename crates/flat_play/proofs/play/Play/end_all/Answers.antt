use Rattle.std.proofs.Common.{◌≡◌, ◌∙◌, ℕ, subst, arith, refl}
use Rattle.flat_play.specs.Playing.{EndsStand}
use Rattle.flat_play.proofs.Ending.{ends_first, has_played, is_written}
use Rattle.flat_play.proofs.Touching.{no-ends, ends-then}
use Rattle.flat_play.proofs.play.Play.end_all.Goals as goal

pub loop-before-init : goal.loop-before-init
loop-before-init c = (refl, refl, ends_first c.args.script.now c.args.self.now c.requires.stands, no-ends c.args.self.now.board.history)

pub returns-clause-played : goal.returns-clause-played
returns-clause-played c =
    let last : c.loop-before.before ≡ c.args.script.now.setup.sessions = omega (arith, c.loop-before.auto.before-end, c.loop-before-test.false) in
    let P : ℕ → Type 0 = λ n. EndsStand c.args.script.now n c.loop-before.self in
    has_played c.args.script.now c.loop-before.self (subst P last c.loop-before.invariant.2)

pub returns-clause-written : goal.returns-clause-written
returns-clause-written c =
    let last : c.loop-before.before ≡ c.args.script.now.setup.sessions = omega (arith, c.loop-before.auto.before-end, c.loop-before-test.false) in
    let P : ℕ → Type 0 = λ n. EndsStand c.args.script.now n c.loop-before.self in
    is_written c.args.script.now c.loop-before.self (subst P last c.loop-before.invariant.2)

pub loop-before-preserved : goal.loop-before-preserved
loop-before-preserved c = (
  c.end_next.ensures.kept ∙ c.loop-before.invariant.0,
  c.end_next.ensures.frames ∙ c.loop-before.invariant.1,
  c.end_next.ensures.stands,
  ends-then _ _ _ c.loop-before.invariant.3 c.end_next.ensures.ends,
)

pub returns-clause-ends : goal.returns-clause-ends
returns-clause-ends c = c.loop-before.invariant.3
