use Rattle.std.proofs.Common.{◌≡◌, ◌++◌, List, map}
use Rattle.flat_scene.specs.declared.frames.LostDisplay.{LostDisplay}
use Rattle.flat_display.proofs.Showing.{ShownSoFar}
use Rattle.flat_display.proofs.set.DisplaySet.show.Given as goal

abbrev pub invariant-loop-place : goal.invariant-loop-place
invariant-loop-place g l = (more : List LostDisplay) × (l.self ≡ record l.initial.self { lost = l.initial.self.lost ++ more })
    × ShownSoFar (λ b. (goal.Display-dyn g (b.vtable, b.value)).shown b.value) (λ b. (goal.Display-dyn g (b.vtable, b.value)).faults b.value) l.frame
    l.initial.self.lost l.place l.initial.displays.items l.displays.items more
    × (map (λ b. b.vtable) l.displays.items ≡ map (λ b. b.vtable) l.initial.displays.items)
