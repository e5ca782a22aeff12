use Rattle.std.proofs.Common.{ℕ, ◌≡◌, ◌+◌, ◌<◌, length, get_or}
use Rattle.flat_ink.specs.Textures.{texture_red}
use Rattle.flat_ink.proofs.texture.each_red.Given as goal

abbrev pub invariant-loop-p : goal.invariant-loop-p
invariant-loop-p l = record {
  size : length l.table ≡ 64;
  values : (i : ℕ) → l.from + i < l.p → get_or l.table i 0 ≡ texture_red l.texture (l.from + i);
}
