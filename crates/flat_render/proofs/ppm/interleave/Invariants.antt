use Rattle.std.proofs.Common.{◌≡◌, ◌*◌, [], ◌∷◌, get_or, length, take}
use Rattle.std.specs.List.{flat_map, range_with_len}
use Rattle.flat_render.proofs.ppm.interleave.Given as goal

abbrev pub invariant-loop-i : goal.invariant-loop-i
invariant-loop-i l = record {
  size : length l.line ≡ 192;
  first : take (3 * l.i) l.line ≡ flat_map (λ i. get_or l.reds i 0 ∷ get_or l.greens i 0 ∷ get_or l.blues i 0 ∷ []) (range_with_len 0 l.i);
}
