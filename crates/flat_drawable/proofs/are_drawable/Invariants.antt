use Rattle.std.proofs.Common.{ℕ, ◌<◌, get_or}
use Rattle.flat_scene.specs.declared.frames.DrawItem.{DrawItem}
use Rattle.flat_drawable.specs.Drawable.{IsDrawable}
use Rattle.flat_drawable.proofs.are_drawable.Given as goal

abbrev pub invariant-loop-item : goal.invariant-loop-item
invariant-loop-item l = (k : ℕ) (d : DrawItem) → k < l.item-index → IsDrawable (get_or l.items k d)
