use Rattle.std.proofs.Common.{ℕ, ◌≡◌, ◌+◌, ◌*◌, ◌%◌, ◌<◌, length, get_or}
use Rattle.flat_ink.proofs.texture.strides.Given as goal

abbrev pub invariant-loop-i : goal.invariant-loop-i
invariant-loop-i l = record {
  size : length l.table ≡ 64;
  values : (k : ℕ) → k < l.i → get_or l.table k 0 ≡ (l.first + l.stride * k) % 256;
}
