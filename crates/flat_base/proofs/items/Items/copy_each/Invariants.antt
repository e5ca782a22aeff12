use Rattle.std.proofs.Common.{◌≡◌, ◌+◌, length, take}
use Rattle.flat_base.proofs.items.Items.copy_each.Given as goal

-- the items so far are copied, and there is room for the others
abbrev pub invariant-loop-item : goal.invariant-loop-item
invariant-loop-item g l = (l.copied.items ≡ take l.item-index l.items) × (l.copied.room + l.item-index ≡ length l.items)
