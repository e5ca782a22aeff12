use Rattle.std.proofs.Common.{◌≡◌, None, take, not}
use Rattle.std.specs.Prelude.{find}
use Rattle.flat_scene.specs.Frames.{is_signalled}
use Rattle.flat_why.proofs.holds.first_unsignalled.Given as goal

abbrev pub invariant-loop-f : goal.invariant-loop-f
invariant-loop-f l = find (λ f. not (is_signalled l.board.setup l.board.history f)) (take l.f-index l.acquire) ≡ None
