use Rattle.std.proofs.Common.{◌+◌, ◌*◌}
use Rattle.flat_render.specs.Grids.{band_bytes}
use Rattle.flat_render.specs.Stored.{drawn_at}
use Rattle.flat_render.proofs.Chunks.{IsRepaintedTo}
use Rattle.flat_render.proofs.band.draw_picked.Given as goal

abbrev pub invariant-loop-n : goal.invariant-loop-n
invariant-loop-n l = IsRepaintedTo (λ k old. drawn_at l.grid l.items (l.row * band_bytes l.grid + k)) l.size l.initial.bytes l.bytes l.n
