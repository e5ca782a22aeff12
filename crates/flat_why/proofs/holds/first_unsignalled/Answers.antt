use Rattle.std.proofs.Common.{ap, not, sym, ◌∙◌}
use Rattle.flat_base.specs.declared.ids.FenceNo.{FenceNo}
use Rattle.flat_scene.specs.Frames.{is_signalled}
use Rattle.flat_why.proofs.Searching.{found-or, missed-or}
use Rattle.flat_why.proofs.holds.first_unsignalled.Goals as goal

pub returns-then-not-is_signalled : goal.returns-then-not-is_signalled
returns-then-not-is_signalled c =
    sym (found-or (λ (f : FenceNo). not (is_signalled c.args.board.now.setup c.args.board.now.history f)) c.args.acquire.now c.loop-f.f-index (record { 0 = 0 })
    c.loop-f-test.true c.loop-f.invariant (ap not (sym c.is_signalled.ensures ∙ c.if-not-is_signalled.true)))

pub loop-f-preserved : goal.loop-f-preserved
loop-f-preserved c =
    missed-or (λ (f : FenceNo). not (is_signalled c.args.board.now.setup c.args.board.now.history f)) c.args.acquire.now c.loop-f.f-index (record { 0 = 0 })
    c.loop-f-test.true c.loop-f.invariant (ap not (sym c.is_signalled.ensures ∙ c.if-not-is_signalled.false))
