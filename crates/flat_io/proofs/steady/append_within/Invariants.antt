use Rattle.std.proofs.Common.{◌≡◌, ◌++◌, take, vec_capacity}
use Rattle.flat_io.proofs.steady.append_within.Given as goal

-- the bytes of the piece so far stand behind what was there
abbrev pub invariant-loop-byte : goal.invariant-loop-byte
invariant-loop-byte l = (l.bytes.items ≡ l.initial.bytes.items ++ take l.byte-index l.piece) × (vec_capacity l.bytes ≡ vec_capacity l.initial.bytes)
