use Rattle.std.proofs.Common.{◌≡◌, ◌+◌, ◌-◌, ◌<◌, ℕ, length, ap, ◌∙◌, refl, arith, get_or, None}
use Rattle.std.proofs.lemmas.List.{length-set}
use Rattle.flat_base.specs.declared.ids.SessionNo.{SessionNo}
use Rattle.flat_rules.specs.Numbers.{number}
use Rattle.flat_rules.proofs.lemmas.ShownList.{listed}
use Rattle.flat_scene.specs.Frames.{taken}
use Rattle.flat_why.specs.declared.reasons.DetachedReason.{DetachedReason}
use Rattle.flat_why.specs.declared.reasons.AttachPoint.{AttachPoint}
use Rattle.flat_why.specs.declared.reasons.AttachPoint.TheVariants.{OnDisplay}
use Rattle.flat_why.specs.Reasons.{first_of, nothing_by, standing_in}
use Rattle.flat_why.specs.Noted.{closings_in, uses_in}
use Rattle.flat_why.proofs.OverSessions.{set-next}
use Rattle.flat_why.proofs.tables.note_standings.Goals as goal

pub returns : goal.returns
returns c =
    let f : SessionNo → AttachPoint = λ s. standing_in c.args.board.now.setup c.args.shown.now (taken c.args.board.now.setup c.args.board.now.history)
    (uses_in c.args.last_uses.now) (nothing_by (closings_in c.args.closings.now s) (first_of s c.args.waits.now)) s in
    listed f c.loop-i.standings c.args.board.now.setup.sessions OnDisplay (c.loop-i.invariant.count ∙ c.requires.standings)
    (λ k d low. c.loop-i.invariant.each k d (let e = c.loop-i.invariant.count in omega (arith, low, e, c.loop-i-test.false, c.loop-i.auto.i-end)))

pub loop-i-preserved : goal.loop-i-preserved
loop-i-preserved c =
    let setup = c.args.board.now.setup in
    let history = c.args.board.now.history in
    let i = c.loop-i.i in
    let with : DetachedReason → AttachPoint = λ nothing. standing_in setup c.args.shown.now (taken setup history) (uses_in c.args.last_uses.now) nothing
    (number i) in
    let f : ℕ → AttachPoint = λ k. standing_in setup c.args.shown.now (taken setup history) (uses_in c.args.last_uses.now)
    (nothing_by (closings_in c.args.closings.now (number k)) (first_of (number k) c.args.waits.now)) (number k) in
    let place : i ≡ i + 1 - 1 = omega arith in
    let value : c.standing_at.result ≡ f i = c.standing_at.ensures
    ∙ ap with (c.nothing-nothing.ensures ∙ ap (λ (n : ℕ). nothing_by (get_or c.args.closings.now n None) (first_of (number i) c.args.waits.now)) place) in
    let low : i < length c.loop-i.standings = (let e = c.loop-i.invariant.count in let t = c.loop-i-test.true in omega (arith, e, t)) in
    record {
      count = length-set c.loop-i.standings i c.standing_at.result ∙ c.loop-i.invariant.count;
      each = set-next f c.loop-i.standings _ i c.standing_at.result low refl value c.loop-i.invariant.each;
    }
