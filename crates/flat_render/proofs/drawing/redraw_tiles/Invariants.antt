use Rattle.flat_ink.specs.Areas.{has_pixel}
use Rattle.flat_render.proofs.Chunks.{IsRepaintedTo, redrawn}
use Rattle.flat_render.proofs.drawing.redraw_tiles.Given as goal

abbrev pub invariant-loop-n : goal.invariant-loop-n
invariant-loop-n l = IsRepaintedTo (redrawn l.items l.grid (has_pixel l.window)) l.size l.fn.bytes l.bytes l.n
