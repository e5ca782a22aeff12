use Rattle.std.proofs.Common.{ℕ, ◌≡◌, ◌<◌, length, get_or, take}
use Rattle.flat_render.specs.Damaged.{is_in_any}
use Rattle.flat_render.proofs.Chunks.{redrawn}
use Rattle.flat_render.proofs.drawing.redraw_rects.Given as goal

abbrev pub invariant-loop-rect : goal.invariant-loop-rect
invariant-loop-rect l = (i : ℕ) → i < length l.fn.bytes
    → get_or l.bytes i 0 ≡ redrawn l.items l.grid (is_in_any (take l.rect-index l.rects)) i (get_or l.fn.bytes i 0)
