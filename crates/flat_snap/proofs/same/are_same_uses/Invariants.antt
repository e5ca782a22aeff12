use Rattle.std.proofs.Common.{◌≡◌, length, take}
use Rattle.flat_snap.proofs.same.are_same_uses.Given as goal

abbrev pub invariant-loop-i : goal.invariant-loop-i
invariant-loop-i l = record { size : length l.one ≡ length l.other; front : take l.i l.one ≡ take l.i l.other }
