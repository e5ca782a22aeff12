-- Pointers' lines in order.
use Rattle.std.specs.Prelude.{ℕ, Bool, true, ◌&&◌, nat_lt, List, [], ◌∷◌}
use Rattle.flat_pointer.specs.declared.text.PointerLine.{PointerLine}

-- lines come after that of a number, and each after the one before it
abbrev pub rise_after : ℕ → List PointerLine → Bool
rise_after number [] = true
rise_after number (line ∷ later) = nat_lt number line.number && rise_after line.number later
