use Rattle.std.proofs.Common.{◌≡◌, ◌<◌, ◌≤◌, ℕ, false, take}
use Rattle.flat_render.specs.Damaged.{is_in_any}
use Rattle.flat_damage.proofs.area.is_beside.Given as goal

abbrev pub invariant-loop-rect : goal.invariant-loop-rect
invariant-loop-rect l = (px py : ℕ) → px < l.w → l.from ≤ py → py < l.upto → is_in_any (take l.rect-index l.rects) px py ≡ false
