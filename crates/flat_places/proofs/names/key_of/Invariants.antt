use Rattle.std.proofs.Common.{◌≡◌, ◌≤◌, ◌<◌, ◌-◌, ◌^◌, length, drop}
use Rattle.flat_places.specs.Index.{key_of}
use Rattle.flat_places.proofs.names.key_of.Given as goal

abbrev pub invariant-loop-place : goal.invariant-loop-place
invariant-loop-place l = record {
  within : l.place ≤ length l.name;
  is : l.key ≡ key_of (drop l.place l.name);
  small : l.key < 256 ^ (length l.name - l.place);
}

abbrev pub decreases-loop-place : goal.decreases-loop-place
decreases-loop-place l = l.place
