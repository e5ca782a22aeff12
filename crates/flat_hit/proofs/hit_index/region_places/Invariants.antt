use Rattle.std.proofs.Common.{◌≡◌, take}
use Rattle.flat_hit.specs.Touchable.{region_places}
use Rattle.flat_hit.proofs.hit_index.region_places.Given as goal

abbrev pub invariant-loop-place : goal.invariant-loop-place
invariant-loop-place l = l.places ≡ region_places (take l.place l.nodes)
