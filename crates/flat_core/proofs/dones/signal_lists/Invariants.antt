use Rattle.std.proofs.Common.{◌≡◌, length, take}
use Rattle.std.specs.Prelude.{◌||◌}
use Rattle.std.specs.List.{list_any}
use Rattle.flat_base.specs.declared.ids.FenceNo.{FenceNo}
use Rattle.flat_fence.specs.Fences.{has}
use Rattle.flat_scene.specs.Frames.{is_among}
use Rattle.flat_core.proofs.dones.signal_lists.Given as goal

abbrev pub invariant-loop-list : goal.invariant-loop-list
invariant-loop-list l = record {
  size : length l.fences ≡ length l.fn.fences;
  members : (g : FenceNo) → has l.fences g ≡ (has l.fn.fences g || list_any (λ list. is_among list g) (take l.list-index l.lists));
}
